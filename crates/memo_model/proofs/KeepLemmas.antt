-- `Keeps` and `AddsNone` of a memo and itself, and of one memo after another.
use Rattle.std.proofs.Common.{◌≡◌, ℕ, List, refl, sym, ◌∙◌, ap, arith}
use Rattle.cal_schema.specs.declared.rel_type.RelType.{RelType}
use Rattle.cal_rel.specs.Holes.{renumbered, EachHole}
use Rattle.cal_rel.specs.Info.{Info, set_at}
use Rattle.cal_rel.specs.Tree.{Tree, leaf, unary, binary, hole}
use Rattle.memo_model.proofs.TreeLemmas.{each-always, each-weaker, renumbered-agree, renumbered-itself, renumbered-twice}
use Rattle.memo_model.proofs.TypeLemmas.{within-trans}
use Rattle.memo_model.specs.Sets.{Sets, became, IsThere, Stands}
use Rattle.memo_model.specs.Sound.{IsCoherent}
use Rattle.memo_model.specs.Relations.{Keeps, IsOld, AddsNone, Settles}
use Rattle.memo_model.proofs.NumberLemmas.{became-twice}

-- a node over sets that are there has the numbers that they have become
pub renumbered-there : (info : Info) (m : Sets) → IsCoherent info m → (t : Tree) → EachHole (IsThere m.types) t → renumbered (became m.numbers) t ≡ t
renumbered-there info m coherent t h = renumbered-itself (became m.numbers) t (each-weaker (IsThere m.types) (λ k. became m.numbers k ≡ k) coherent.stays t h)

-- numbers changed twice
pub renumbered-on : (old new : Sets) → Keeps old new → (t : Tree) → renumbered (became new.numbers) (renumbered (became old.numbers) t) ≡ renumbered (became new.numbers) t
renumbered-on old new h t =
    renumbered-twice (became new.numbers) (became old.numbers) t
    ∙ renumbered-agree (λ k. became new.numbers (became old.numbers k)) (became new.numbers) t (each-always (λ k. became new.numbers (became old.numbers k) ≡ became new.numbers k) h.numbers t)

pub keeps-refl : (info : Info) (m : Sets) → IsCoherent info m → Keeps m m
keeps-refl info m coherent = record {
  members = λ s node h.
      let member = coherent.members s node h in
      rw (coherent.stays s member.there, renumbered-there info m coherent node member.holes) h;
  types = λ k t e. record { found = t; is = ap (set_at m.types) (coherent.stays k (record { found = t; is = e })) ∙ e; within = (coherent.seeds k t e).ordered };
  numbers = became-twice info m coherent;
  longer = omega arith;
  gone = λ k l e. e;
}

pub keeps-trans : (a b c : Sets) → Keeps a b → Keeps b c → Keeps a c
keeps-trans a b c h k = record {
  members = λ s node has.
      let on = k.members (became b.numbers s) (renumbered (became b.numbers) node) (h.members s node has) in
      rw (k.numbers s, renumbered-on b c k node) at on;
  types = λ j t e.
      let x = h.types j t e in
      let y = k.types (became b.numbers j) x.found x.is in
      record { found = y.found; is = ap (set_at c.types) (sym (k.numbers j)) ∙ y.is; within = within-trans y.found x.found t y.within x.within };
  numbers = λ j. sym (k.numbers (became a.numbers j)) ∙ ap (became c.numbers) (h.numbers j) ∙ k.numbers j;
  longer = let x = h.longer in let y = k.longer in omega arith;
  gone = λ j l e. let x = h.longer in k.gone j (omega arith) (h.gone j l e);
}

pub adds_none-refl : (info : Info) (m : Sets) → IsCoherent info m → AddsNone m m
adds_none-refl info m coherent = record {
  members = λ s node h.
      let member = coherent.members s node h in
      record { set = s; tree = node; has = h; set_is = sym (coherent.stays s member.there); tree_is = sym (renumbered-there info m coherent node member.holes) };
}

pub old-trans : (a b c : Sets) → Keeps b c → (s : ℕ) (node : Tree) → (x : IsOld b c s node) → IsOld a b x.set x.tree → IsOld a c s node
old-trans a b c k s node x y = record {
  set = y.set;
  tree = y.tree;
  has = y.has;
  set_is = x.set_is ∙ ap (became c.numbers) y.set_is ∙ k.numbers y.set;
  tree_is = x.tree_is ∙ ap (renumbered (became c.numbers)) y.tree_is ∙ renumbered-on b c k y.tree;
}

pub settles-refl : (info : Info) (m : Sets) → IsCoherent info m → Settles info m m
settles-refl info m coherent = record { coherent = coherent; keeps = keeps-refl info m coherent; adds_none = adds_none-refl info m coherent; added = refl }

pub settles-trans : (info : Info) (a b c : Sets) → Settles info a b → Settles info b c → Settles info a c
settles-trans info a b c h k = record {
  coherent = k.coherent;
  keeps = keeps-trans a b c h.keeps k.keeps;
  adds_none = record { members = λ s node has. let x = k.adds_none.members s node has in old-trans a b c k.keeps s node x (h.adds_none.members x.set x.tree x.has) };
  added = k.added ∙ h.added;
}

-- what stands in a set stands in what it has become
pub stands-kept : (a b : Sets) → Keeps a b → (s : ℕ) (t : Tree) → Stands a.members s t → Stands b.members (became b.numbers s) (renumbered (became b.numbers) t)
stands-kept a b h s (leaf l) e = h.members s (leaf l) e
stands-kept a b h s (unary u t) e = (became b.numbers e.0, h.members s (unary u (hole e.0)) e.1, stands-kept a b h e.0 t e.2)
stands-kept a b h s (binary n x y) e =
    (became b.numbers e.0, became b.numbers e.1, h.members s (binary n (hole e.0) (hole e.1)) e.2, stands-kept a b h e.0 x e.3, stands-kept a b h e.1 y e.4)
stands-kept a b h s (hole k) e = ap (became b.numbers) e
