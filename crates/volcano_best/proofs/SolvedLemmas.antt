-- What a solved table says of plans.
use Rattle.std.proofs.Common.{◌≡◌, ℕ, ◌^◌, ◌<◌, List, [], ◌∷◌, map, length, Option, Some, None, refl, sym, ◌∙◌, subst}
use Rattle.std.specs.Option.{option_map}
use Rattle.std.proofs.lemmas.Option.{slice_get_within}
use Rattle.cal_value.specs.declared.order.KeyOrder.{KeyOrder}
use Rattle.cheapest_derivations.specs.declared.table.Edge.{Edge}
use Rattle.cheapest_derivations.specs.declared.table.Cell.{Cell}
use Rattle.cheapest_derivations.specs.declared.table.Step.{Step}
use Rattle.cheapest_derivations.specs.Derivations as d
use Rattle.cheapest_derivations.specs.Offers.{cell_at, value_of}
use Rattle.cheapest_derivations.specs.Tables.{Holds, IsAtMost, AreOrdered}
use Rattle.cheapest_derivations.proofs.Sound.{holds-below}
use Rattle.plan_nodes.specs.declared.plan.Plan.{Plan}
use Rattle.plan_nodes.specs.PlanTrees.{PlanTree, nothing, plan, cost}
use Rattle.plan_nodes.specs.Seen.{plan_tree}
use Rattle.phys_plan.specs.declared.ways.Ask.{Ask}
use Rattle.phys_plan.specs.declared.alternatives.State.{State}
use Rattle.phys_plan.specs.Spaces.{Space}
use Rattle.phys_plan.specs.Plans.{Realises, rows_asked}
use Rattle.phys_plan.specs.Realised.{IsPlanOf}
use Rattle.phys_plan.specs.Alternatives.{Meets}
use Rattle.phys_plan.specs.Inputs.{there}
use Rattle.volcano_best.specs.declared.graph.Root.{Root}
use Rattle.volcano_best.specs.Graphs.{IsNumber, IsMade, IsGraph, plan_of, seen_of}
use Rattle.volcano_best.specs.Solved.{IsCheapest, HasNoPlan, root_state, IsSolved, IsPlanAdded}
use Rattle.phys_plan.proofs.RowLemmas.{realised-order}
use Rattle.volcano_best.proofs.GraphLemmas.{AreWide, IsWorth, graph-worth, IsDerived, graph-derived}
use Rattle.phys_plan.proofs.Bridge.{from-realised, to-realised}

-- places of a graph are places of its states
number-within : (states : List State) (s : Option State) (n : Option ℕ) → IsNumber states s n → d.IsWithin (length states) n
number-within states None None h = tt
number-within states None (Some k) h = absurd h
number-within states (Some s) None h = absurd h
number-within states (Some s) (Some k) h = slice_get_within states k s h

pub graph-within : (space : Space) (states : List State) (roots : List Root) (edges : List Edge) (n : ℕ) → IsGraph space states roots edges → length states ≡ n → d.AreWithin edges n
graph-within space states roots edges n graph e = subst (λ m. d.AreWithin edges m) e (record {
  target = λ k edge got. let m : IsMade space states roots k edge = graph.made k edge got in slice_get_within states edge.target m.state m.here;
  first = λ k edge got. let m : IsMade space states roots k edge = graph.made k edge got in number-within states m.alt.first edge.first m.linked.first;
  second = λ k edge got. let m : IsMade space states roots k edge = graph.made k edge got in number-within states m.alt.second edge.second m.linked.second;
})

-- a plan of the root's set costs at least what the root's cell says
root-least : (space : Space) (set : ℕ) (order : List KeyOrder) (states : List State) (roots : List Root) (edges : List Edge) (cells : List (Option Cell)) (steps : List Step)
    → AreWide space → IsSolved space set order states roots edges cells steps → (tree : PlanTree) → IsPlanOf space set order tree → IsAtMost (value_of cells (Some 0)) (cost tree)
root-least space set order states roots edges cells steps wide solved tree h =
    let ask : Ask = rows_asked set order in
    let realised : Realises space (Some ask) tree = from-realised space (Some ask) tree h.realised in
    let meets : Meets space (root_state set order) tree = record { realised = realised; ordered = realised-order space (Some ask) tree order realised refl } in
    let derived : IsDerived edges (Some 0) tree = graph-derived space states roots edges wide solved.full tree (Some (root_state set order)) (Some 0) solved.root meets in
    subst (λ n. IsAtMost (value_of cells (Some 0)) n) derived.cost (solved.least.least 0 derived.derivation derived.derives)

pub solved-none : (space : Space) (set : ℕ) (order : List KeyOrder) (states : List State) (roots : List Root) (edges : List Edge) (cells : List (Option Cell)) (steps : List Step)
    → AreWide space → IsSolved space set order states roots edges cells steps → cell_at cells 0 ≡ None → HasNoPlan space set order
solved-none space set order states roots edges cells steps wide solved is = record {
  none = λ tree h.
      let P : Option Cell → Type 0 = λ there. IsAtMost (option_map (λ x. x.cost) there) (cost tree) in
      subst P is (root-least space set order states roots edges cells steps wide solved tree h);
}

there-some : (space : Space) (ask : Ask) (tree : PlanTree) → Realises space (Some ask) tree → there tree ≡ Some tree ∷ []
there-some space ask nothing h = absurd cc
there-some space ask (plan node rows part a b) h = refl

-- the one plan that is added
one-seen : (p : Plan) (tree : PlanTree) (added : List Plan) → added ≡ p ∷ [] → map plan_tree added ≡ Some tree ∷ [] → plan_tree p ≡ Some tree
one-seen p tree added is e = let one : map plan_tree (p ∷ []) ≡ Some tree ∷ [] = subst (λ ps. map plan_tree ps ≡ Some tree ∷ []) is e in cc

pub solved-best : (space : Space) (set : ℕ) (order : List KeyOrder) (states : List State) (roots : List Root) (edges : List Edge) (cells : List (Option Cell)) (steps : List Step)
    (c : Cell) (p : Plan) → AreWide space → IsSolved space set order states roots edges cells steps → cell_at cells 0 ≡ Some c
    → IsPlanAdded steps roots (Some c.place) [] (p ∷ []) → IsCheapest space set order (record { plan = p; cost = c.cost })
solved-best space set order states roots edges cells steps c p wide solved is at =
    let held : Holds (2 ^ 100) edges steps 0 c = solved.sound.held 0 c is in
    let tree : PlanTree = plan_of roots held.tree in
    let worth : IsWorth space states (Some 0) tree (seen_of roots held.tree) (d.cost (2 ^ 100) edges held.tree) =
    graph-worth space states roots edges wide solved.graph held.tree (Some 0) held.derives in
    let meets : Meets space (root_state set order) tree = worth.meets (root_state set order) solved.root in
    let P : Option Cell → PlanTree → Type 0 = λ there t. IsAtMost (option_map (λ x. x.cost) there) (cost t) in
    record {
      tree = tree;
      is = one-seen p tree at.added (sym at.is) (at.seen held.tree held.spelled ∙ worth.seen_is ∙ there-some space (rows_asked set order) tree meets.realised);
      plan = record { realised = to-realised space (Some (rows_asked set order)) tree meets.realised };
      least = record { least = λ t h. subst (λ there. P there t) is (root-least space set order states roots edges cells steps wide solved t h) };
      cost = sym held.cost ∙ sym worth.cost;
    }

pub solved-ordered : (space : Space) (set : ℕ) (order : List KeyOrder) (states : List State) (roots : List Root) (edges : List Edge) (cells : List (Option Cell)) (steps : List Step)
    → IsSolved space set order states roots edges cells steps → AreOrdered steps (length roots)
solved-ordered space set order states roots edges cells steps solved = subst (λ n. AreOrdered steps n) (sym solved.even) solved.sound.ordered

pub solved-below : (space : Space) (set : ℕ) (order : List KeyOrder) (states : List State) (roots : List Root) (edges : List Edge) (cells : List (Option Cell)) (steps : List Step)
    (c : Cell) → IsSolved space set order states roots edges cells steps → cell_at cells 0 ≡ Some c → c.place < length steps
solved-below space set order states roots edges cells steps c solved is = holds-below (2 ^ 100) edges steps 0 c (solved.sound.held 0 c is)

pub solved-wide : (space : Space) (set : ℕ) (order : List KeyOrder) (states : List State) (roots : List Root) (edges : List Edge) (cells : List (Option Cell)) (steps : List Step)
    → IsSolved space set order states roots edges cells steps → 0 < length cells
solved-wide space set order states roots edges cells steps solved = subst (λ n. 0 < n) (sym solved.wide) (slice_get_within states 0 (root_state set order) solved.root)
