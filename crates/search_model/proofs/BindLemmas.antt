-- What holds of each member that a binding uses, also with other numbers for the sets; and where a binding stands.
use Rattle.std.proofs.Common.{◌≡◌, ℕ, List, refl, sym}
use Rattle.cal_rel.specs.Holes.{renumbered, EachHole}
use Rattle.cal_rel.specs.Info.{Info}
use Rattle.cal_rel.specs.Tree.{Binary, Tree, leaf, unary, binary, hole}
use Rattle.rule_hep.specs.declared.rule.Reach.{Reach}
use Rattle.rule_hep.specs.declared.rule.Reach.TheVariants.{Node, FirstChild, BothChildren, Chain}
use Rattle.memo_model.specs.Sets.{Sets, became, IsThere, Has, Stands}
use Rattle.memo_model.specs.Sound.{IsHole, IsNode, IsCoherent}
use Rattle.memo_model.specs.Relations.{Keeps}
use Rattle.search_model.specs.Bindings.{OfMembers, BindsFirst, BindsBoth, BindsChain, BindsBy, Binds}

-- ---- other numbers

module _ (P Q : OfMembers) (m : ℕ → ℕ) (on : (s : ℕ) (node : Tree) → P s node → Q (m s) (renumbered m node)) where
  first-on : (s : ℕ) (t : Tree) → BindsFirst P s t → BindsFirst Q (m s) (renumbered m t)
  first-on s (leaf l) e = on s (leaf l) e
  first-on s (unary u t) e = (m e.0, on s (unary u (hole e.0)) e.1, on e.0 t e.2)
  first-on s (binary b x y) e = (m e.0, on s (binary b (hole e.0) y) e.1, on e.0 x e.2)
  first-on s (hole k) e = e

  both-on : (s : ℕ) (t : Tree) → BindsBoth P s t → BindsBoth Q (m s) (renumbered m t)
  both-on s (leaf l) e = on s (leaf l) e
  both-on s (unary u t) e = (m e.0, on s (unary u (hole e.0)) e.1, on e.0 t e.2)
  both-on s (binary b x y) e = (m e.0, m e.1, on s (binary b (hole e.0) (hole e.1)) e.2, on e.0 x e.3, on e.1 y e.4)
  both-on s (hole k) e = e

  chain-on : (s : ℕ) (t : Tree) → BindsChain P s t → BindsChain Q (m s) (renumbered m t)
  chain-on s (leaf l) e = on s (leaf l) e
  chain-on s (unary u t) e = (m e.0, on s (unary u (hole e.0)) e.1, first-on e.0 t e.2)
  chain-on s (binary b x y) e = (m e.0, on s (binary b (hole e.0) y) e.1, first-on e.0 x e.2)
  chain-on s (hole k) e = e

  pub binds-on : (reach : Reach) (s : ℕ) (t : Tree) → BindsBy P reach s t → BindsBy Q reach (m s) (renumbered m t)
  binds-on Node s t e = on s t e
  binds-on FirstChild s t e = first-on s t e
  binds-on BothChildren s t e = both-on s t e
  binds-on Chain s t e = chain-on s t e

-- bindings stay bindings
pub binds-kept : (a b : Sets) → Keeps a b → (reach : Reach) (s : ℕ) (t : Tree) → Binds a.members reach s t
    → Binds b.members reach (became b.numbers s) (renumbered (became b.numbers) t)
binds-kept a b h = binds-on (Has a.members) (Has b.members) (became b.numbers) h.members

-- ---- less of each member

module _ (P Q : OfMembers) (h : (s : ℕ) (node : Tree) → P s node → Q s node) where
  first-weaker : (s : ℕ) (t : Tree) → BindsFirst P s t → BindsFirst Q s t
  first-weaker s (leaf l) e = h s (leaf l) e
  first-weaker s (unary u t) e = (e.0, h s (unary u (hole e.0)) e.1, h e.0 t e.2)
  first-weaker s (binary b x y) e = (e.0, h s (binary b (hole e.0) y) e.1, h e.0 x e.2)
  first-weaker s (hole k) e = e

  both-weaker : (s : ℕ) (t : Tree) → BindsBoth P s t → BindsBoth Q s t
  both-weaker s (leaf l) e = h s (leaf l) e
  both-weaker s (unary u t) e = (e.0, h s (unary u (hole e.0)) e.1, h e.0 t e.2)
  both-weaker s (binary b x y) e = (e.0, e.1, h s (binary b (hole e.0) (hole e.1)) e.2, h e.0 x e.3, h e.1 y e.4)
  both-weaker s (hole k) e = e

  chain-weaker : (s : ℕ) (t : Tree) → BindsChain P s t → BindsChain Q s t
  chain-weaker s (leaf l) e = h s (leaf l) e
  chain-weaker s (unary u t) e = (e.0, h s (unary u (hole e.0)) e.1, first-weaker e.0 t e.2)
  chain-weaker s (binary b x y) e = (e.0, h s (binary b (hole e.0) y) e.1, first-weaker e.0 x e.2)
  chain-weaker s (hole k) e = e

  pub binds-weaker : (reach : Reach) (s : ℕ) (t : Tree) → BindsBy P reach s t → BindsBy Q reach s t
  binds-weaker Node s t e = h s t e
  binds-weaker FirstChild s t e = first-weaker s t e
  binds-weaker BothChildren s t e = both-weaker s t e
  binds-weaker Chain s t e = chain-weaker s t e

-- ---- over a sound memo

hole-is : (x : Tree) → IsHole x → (k : ℕ) × (x ≡ hole k)
hole-is (leaf l) h = absurd h
hole-is (unary u x) h = absurd h
hole-is (binary b x y) h = absurd h
hole-is (hole k) h = (k, refl)

module _ (info : Info) (m : Sets) (coherent : IsCoherent info m) where
  -- the sets that a binding names are there

  member-there : (s : ℕ) (x : Tree) → Has m.members s x → IsThere m.types s × EachHole (IsThere m.types) x
  member-there s x h = let is = coherent.members s x h in (is.there, is.holes)

  first-there : (s : ℕ) (x : Tree) → BindsFirst (Has m.members) s x → IsThere m.types s × EachHole (IsThere m.types) x
  first-there s (leaf l) e = member-there s (leaf l) e
  first-there s (unary u x) e = ((member-there s (unary u (hole e.0)) e.1).0, (member-there e.0 x e.2).1)
  first-there s (binary b x y) e = let is = member-there s (binary b (hole e.0) y) e.1 in (is.0, ((member-there e.0 x e.2).1, is.1.1))
  first-there s (hole k) e = absurd e

  both-there : (s : ℕ) (x : Tree) → BindsBoth (Has m.members) s x → IsThere m.types s × EachHole (IsThere m.types) x
  both-there s (leaf l) e = member-there s (leaf l) e
  both-there s (unary u x) e = ((member-there s (unary u (hole e.0)) e.1).0, (member-there e.0 x e.2).1)
  both-there s (binary b x y) e = ((member-there s (binary b (hole e.0) (hole e.1)) e.2).0, ((member-there e.0 x e.3).1, (member-there e.1 y e.4).1))
  both-there s (hole k) e = absurd e

  chain-there : (s : ℕ) (x : Tree) → BindsChain (Has m.members) s x → IsThere m.types s × EachHole (IsThere m.types) x
  chain-there s (leaf l) e = member-there s (leaf l) e
  chain-there s (unary u x) e = ((member-there s (unary u (hole e.0)) e.1).0, (first-there e.0 x e.2).1)
  chain-there s (binary b x y) e = let is = member-there s (binary b (hole e.0) y) e.1 in (is.0, ((first-there e.0 x e.2).1, is.1.1))
  chain-there s (hole k) e = absurd e

  pub binds-there : (reach : Reach) (s : ℕ) (x : Tree) → Binds m.members reach s x → IsThere m.types s × EachHole (IsThere m.types) x
  binds-there Node s x e = member-there s x e
  binds-there FirstChild s x e = first-there s x e
  binds-there BothChildren s x e = both-there s x e
  binds-there Chain s x e = chain-there s x e

  -- a binding stands in the set of its member

  hole-stands : (x : Tree) (k : ℕ) → x ≡ hole k → Stands m.members k x
  hole-stands x k e = rw e refl

  node-stands : (s : ℕ) (x : Tree) → Has m.members s x → IsNode x → Stands m.members s x
  node-stands s (leaf l) h shape = h
  node-stands s (unary u x) h shape =
      let k = hole-is x shape in
      let has : Has m.members s (unary u (hole k.0)) = rw (← k.1) h in
      (k.0, has, hole-stands x k.0 k.1)
  node-stands s (binary b x y) h shape =
      let k = hole-is x shape.0 in
      let l = hole-is y shape.1 in
      let has : Has m.members s (binary b (hole k.0) (hole l.0)) = rw (← k.1, ← l.1) h in
      (k.0, l.0, has, hole-stands x k.0 k.1, hole-stands y l.0 l.1)
  node-stands s (hole k) h shape = absurd shape

  member-stands : (s : ℕ) (x : Tree) → Has m.members s x → Stands m.members s x
  member-stands s x h = node-stands s x h (coherent.members s x h).shape

  -- the right input of a member stays a hole
  right-stands : (b : Binary) (s k : ℕ) (x y : Tree) → Has m.members s (binary b (hole k) y) → Stands m.members k x → Stands m.members s (binary b x y)
  right-stands b s k x y h stands =
      let l = hole-is y (coherent.members s (binary b (hole k) y) h).shape.1 in
      let has : Has m.members s (binary b (hole k) (hole l.0)) = rw (← l.1) h in
      (k, l.0, has, stands, hole-stands y l.0 l.1)

  first-stands : (s : ℕ) (x : Tree) → BindsFirst (Has m.members) s x → Stands m.members s x
  first-stands s (leaf l) e = e
  first-stands s (unary u x) e = (e.0, e.1, member-stands e.0 x e.2)
  first-stands s (binary b x y) e = right-stands b s e.0 x y e.1 (member-stands e.0 x e.2)
  first-stands s (hole k) e = absurd e

  both-stands : (s : ℕ) (x : Tree) → BindsBoth (Has m.members) s x → Stands m.members s x
  both-stands s (leaf l) e = e
  both-stands s (unary u x) e = (e.0, e.1, member-stands e.0 x e.2)
  both-stands s (binary b x y) e = (e.0, e.1, e.2, member-stands e.0 x e.3, member-stands e.1 y e.4)
  both-stands s (hole k) e = absurd e

  chain-stands : (s : ℕ) (x : Tree) → BindsChain (Has m.members) s x → Stands m.members s x
  chain-stands s (leaf l) e = e
  chain-stands s (unary u x) e = (e.0, e.1, first-stands e.0 x e.2)
  chain-stands s (binary b x y) e = right-stands b s e.0 x y e.1 (first-stands e.0 x e.2)
  chain-stands s (hole k) e = absurd e

  pub binds-stands : (reach : Reach) (s : ℕ) (x : Tree) → Binds m.members reach s x → Stands m.members s x
  binds-stands Node s x e = member-stands s x e
  binds-stands FirstChild s x e = first-stands s x e
  binds-stands BothChildren s x e = both-stands s x e
  binds-stands Chain s x e = chain-stands s x e
