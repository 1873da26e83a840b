-- Where no edge offers less, no derivation costs less.
use Rattle.std.proofs.Common.{◌≡◌, ℕ, ◌+◌, ◌≤◌, List, Option, Some, None, refl, sym, subst, arith, cond, ltb, min, true, false, Bool}
use Rattle.std.specs.Option.{option_map}
use Rattle.cheapest_derivations.specs.declared.table.Edge.{Edge}
use Rattle.cheapest_derivations.specs.declared.table.Cell.{Cell}
use Rattle.cheapest_derivations.specs.Derivations.{Tree, none, step, Derives, cost, weight_at}
use Rattle.cheapest_derivations.specs.Offers.{cell_at, value_of, joined, better}
use Rattle.cheapest_derivations.specs.Tables.{IsAtMost, AreSettled, IsLeast}
use Rattle.cheapest_derivations.proofs.Sound.{weight-is}

cut-least : (limit w a b x y c : ℕ) → a ≤ x → b ≤ y → c ≤ min (w + a + b) limit → c ≤ min (w + x + y) limit
cut-least limit w a b x y c p q h = omega arith

not-less : (n c : ℕ) (t : Bool) → ltb n c ≡ t → cond t (Some n) None ≡ None → c ≤ n
not-less n c true e h = absurd cc
not-less n c false e h = grind (arith, e)

settled-bound : (limit w x y : ℕ) (va vb : Option ℕ) (there : Option Cell) → better (joined limit w va vb) there ≡ None → IsAtMost va x → IsAtMost vb y
    → IsAtMost (option_map (λ c. c.cost) there) (min (w + x + y) limit)
settled-bound limit w x y None vb there h p q = absurd p
settled-bound limit w x y (Some a) None there h p q = absurd q
settled-bound limit w x y (Some a) (Some b) None h p q = absurd cc
settled-bound limit w x y (Some a) (Some b) (Some c) h p q =
    cut-least limit w a b x y c.cost p q (not-less (min (w + a + b) limit) c.cost (ltb (min (w + a + b) limit) c.cost) refl h)

tree-least : (limit : ℕ) (edges : List Edge) (cells : List (Option Cell)) → AreSettled limit edges cells
    → (t : Tree) (goal : Option ℕ) → Derives edges goal t → IsAtMost (value_of cells goal) (cost limit edges t)
tree-least limit edges cells settled none goal d =
    let zero_least : 0 ≤ 0 = omega arith in
    subst (λ g. IsAtMost (value_of cells g) 0) (sym d) zero_least
tree-least limit edges cells settled (step e a b) goal d =
    let edge : Edge = d.0 in
    let bound : IsAtMost (value_of cells (Some edge.target)) (min (edge.weight + cost limit edges a + cost limit edges b) limit) =
    settled-bound limit edge.weight (cost limit edges a) (cost limit edges b) (value_of cells edge.first) (value_of cells edge.second) (cell_at cells edge.target)
    (settled.settled e edge d.1) (tree-least limit edges cells settled a edge.first d.3) (tree-least limit edges cells settled b edge.second d.4) in
    let here : IsAtMost (value_of cells (Some edge.target)) (min (weight_at edges e + cost limit edges a + cost limit edges b) limit) =
    subst (λ w. IsAtMost (value_of cells (Some edge.target)) (min (w + cost limit edges a + cost limit edges b) limit)) (sym (weight-is edges e edge d.1)) bound in
    subst (λ g. IsAtMost (value_of cells g) (cost limit edges (step e a b))) (sym d.2) here

pub settled-least : (limit : ℕ) (edges : List Edge) (cells : List (Option Cell)) → AreSettled limit edges cells → IsLeast limit edges cells
settled-least limit edges cells settled = record { least = λ s tree d. tree-least limit edges cells settled tree (Some s) d }

pub ruleset least_steps = (settled-least)
