-- A tree is entered, and then sets become one until no expression occurs twice.
use Rattle.std.proofs.Common.{◌≡◌, ◌≢◌, ℕ, ◌<◌, ◌≤◌, length, inl, inr, List, [], arith, Some, None, refl, sym, ◌∙◌, ap, subst}
use Rattle.cal_schema.specs.declared.rel_type.RelType.{RelType}
use Rattle.cal_schema.specs.Valid.{IsValidSchema}
use Rattle.cal_rel.specs.Holes.{renumbered, filled}
use Rattle.cal_rel.specs.Info.{Info, set_at}
use Rattle.cal_rel.specs.Tree.{Tree, leaf, unary, binary, hole}
use Rattle.cal_rel.specs.Typing.{type_of}
use Rattle.memo_model.specs.declared.TheConstants.{MEMBER_LIMIT}
use Rattle.memo_model.specs.Sets.{Sets, seed_at, became, IsThere}
use Rattle.memo_model.specs.Sound.{over, IsCoherent, IsUnique, IsSound, MayMerge, MayStand}
use Rattle.memo_model.specs.Relations.{Keeps, Settles, IsPart, StandsBy, ComesFrom, Registers}
use Rattle.memo_model.specs.Steps.{in_place, Placed, entered, merged}
use Rattle.memo_model.proofs.NumberLemmas.{there-below, in_place-gone, in_place-other, became-map}
use Rattle.memo_model.proofs.KeepLemmas.{keeps-trans, stands-kept, settles-refl}
use Rattle.memo_model.proofs.MeansLemmas.{means-trans}
use Rattle.memo_model.proofs.TypeLemmas.{within-trans, within-kinds}
use Rattle.memo_model.proofs.ExtendLemmas.{extends-keeps}
use Rattle.memo_model.proofs.EnterLemmas.{IsEntered, input-same}
use Rattle.memo_model.proofs.EnteredLemmas.{entered-is}

part-renumbered : (f : ℕ → ℕ) (p x : Tree) → IsPart p x → IsPart (renumbered f p) (renumbered f x)
part-renumbered f p (leaf l) h = ap (renumbered f) h
part-renumbered f p (unary u x) h = elim h [ inl e ↦ inl (ap (renumbered f) e) | inr e ↦ inr (part-renumbered f p x e) ]
part-renumbered f p (binary n a b) h = elim h [
  | inl e ↦ inl (ap (renumbered f) e)
  | inr e ↦ elim e [ inl u ↦ inr (inl (part-renumbered f p a u)) | inr u ↦ inr (inr (part-renumbered f p b u)) ]
]
part-renumbered f p (hole k) h = ap (renumbered f) h

stands_by-kept : (a b : Sets) → Keeps a b → (s : ℕ) (node x : Tree) → StandsBy a.members s node x
    → StandsBy b.members (became b.numbers s) (renumbered (became b.numbers) node) (renumbered (became b.numbers) x)
stands_by-kept a b h s node (leaf l) e = (ap (renumbered (became b.numbers)) e.0, h.members s node e.1)
stands_by-kept a b h s node (unary u x) e = (became b.numbers e.0, ap (renumbered (became b.numbers)) e.1, h.members s node e.2, stands-kept a b h e.0 x e.3)
stands_by-kept a b h s node (binary n x y) e =
    (became b.numbers e.0, became b.numbers e.1, ap (renumbered (became b.numbers)) e.2, h.members s node e.3, stands-kept a b h e.0 x e.4, stands-kept a b h e.1 y e.5)
stands_by-kept a b h s node (hole k) e = e

pub comes-kept : (a b : Sets) → Keeps a b → (x : Tree) (s : ℕ) (node : Tree) → ComesFrom a.members x s node
    → ComesFrom b.members (renumbered (became b.numbers) x) (became b.numbers s) (renumbered (became b.numbers) node)
comes-kept a b h x s node c = record {
  part = renumbered (became b.numbers) c.part;
  is = part-renumbered (became b.numbers) c.part x c.is;
  stands = stands_by-kept a b h s node c.part c.stands;
}

-- the two sets of a merge have one number afterwards
pub merged-number : (info : Info) (m : Sets) → IsCoherent info m → (a b : ℕ) → MayMerge info m a b → became (merged a b m).numbers a ≡ became (merged a b m).numbers b
merged-number info m coherent a b may =
    let l = there-below m.types b may.second in
    let below : b < length m.numbers = rw coherent.number_count l in
    became-map m.numbers a b a below ∙ ap (in_place a b) (coherent.stays a may.first) ∙ in_place-other a b a may.apart
    ∙ sym (in_place-gone a b) ∙ ap (in_place a b) (sym (coherent.stays b may.second)) ∙ sym (became-map m.numbers a b b below)

-- numbers that are one stay one
pub number-on : (a b : Sets) → Keeps a b → (j k : ℕ) → became a.numbers j ≡ became a.numbers k → became b.numbers j ≡ became b.numbers k
number-on a b h j k e = sym (h.numbers j) ∙ ap (became b.numbers) e ∙ h.numbers k

module _ (info : Info) (m : Sets) (x : Tree) (t : RelType) (r : Placed) (coherent : IsCoherent info m) (is : IsEntered info m x t r) where
  -- the set in which the tree stands, and another one that means the same, may become one
  pub entered-may : (s : ℕ) → type_of (over info m.types) x ≡ Some t → MayStand info m x t s → r.set ≢ s → MayMerge info r.sets r.set s
  entered-may s typed may n =
      let at = is.extends.types s may.there.found may.there.is in
      let l = there-below m.types s may.there in
      let seed : seed_at r.sets.seeds s ≡ seed_at m.seeds s = is.extends.seeds s (rw coherent.seed_count l) in
      let first = input-same info m r.sets x t r.set coherent is.extends typed is.stands in
      record {
        apart = n;
        first = record { found = is.type.found; is = is.type.is };
        second = record { found = at.found; is = at.is };
        kinds = within-kinds is.type.found t is.type.within ∙ may.kinds ∙ sym (within-kinds at.found may.there.found at.within);
        same = rw seed (means-trans (over info []) (seed_at r.sets.seeds r.set) (filled (seed_at m.seeds) x) (seed_at m.seeds s) first may.means);
      }

  pub entered-registers : (new : Sets) (s : ℕ) → Settles info r.sets new → IsUnique new.members → new.added ≤ MEMBER_LIMIT → became new.numbers s ≡ became new.numbers r.set → Registers info m r.sets new x t s
  entered-registers new s settles unique full number = record {
    sound = record { coherent = settles.coherent; unique = unique; full = full };
    keeps = keeps-trans m r.sets new (extends-keeps info m r.sets coherent is.extends) settles.keeps;
    stands = rw number (stands-kept r.sets new settles.keeps r.set x is.stands);
    type =
        let on = settles.keeps.types r.set is.type.found is.type.is in
        rw number (record { found = on.found; is = on.is; within = within-trans on.found is.type.found t on.within is.type.within });
    members = λ k node has.
        let old = settles.adds_none.members k node has in
        elim (is.back old.set old.tree old.has) [
          | inl e ↦ inl (record { set = old.set; tree = old.tree; has = e; set_is = old.set_is; tree_is = old.tree_is })
          | inr e ↦ (
              let from = comes-kept r.sets new settles.keeps x old.set old.tree e in
              let first : ComesFrom new.members (renumbered (became new.numbers) x) k (renumbered (became new.numbers) old.tree) =
              subst (λ z. ComesFrom new.members (renumbered (became new.numbers) x) z (renumbered (became new.numbers) old.tree)) (sym old.set_is) from in
              inr (subst (λ z. ComesFrom new.members (renumbered (became new.numbers) x) k z) (sym old.tree_is) first))
        ];
    added = settles.added;
    counted = is.extends.added;
  }

-- what `seed` leaves
pub seed-registers : (info : Info) (m : Sets) (x : Tree) (t : RelType) → IsSound info m → type_of (over info m.types) x ≡ Some t → (entered info None x m).sets.added ≤ MEMBER_LIMIT
    → Registers info m (entered info None x m).sets (entered info None x m).sets x t (entered info None x m).set
seed-registers info m x t sound typed full =
    let r = entered info None x m in
    let is = entered-is info x None m t sound.coherent typed tt in
    entered-registers info m x t r sound.coherent is r.sets r.set (settles-refl info r.sets is.extends.coherent) (is.unique sound.unique) full refl

-- what `register` leaves, where no sets become one
pub placed-registers : (info : Info) (m : Sets) (x : Tree) (t : RelType) (s : ℕ) → IsSound info m → type_of (over info m.types) x ≡ Some t
    → MayStand info m x t s → (entered info (Some s) x m).sets.added ≤ MEMBER_LIMIT → (entered info (Some s) x m).set ≡ s
    → Registers info m (entered info (Some s) x m).sets (entered info (Some s) x m).sets x t s
placed-registers info m x t s sound typed may full at =
    let r = entered info (Some s) x m in
    let is = entered-is info x (Some s) m t sound.coherent typed may in
    entered-registers info m x t r sound.coherent is r.sets s (settles-refl info r.sets is.extends.coherent) (is.unique sound.unique) full (ap (became r.sets.numbers) (sym at))

-- what `register` leaves, where the two sets and then others become one
pub merged-registers : (info : Info) (m new : Sets) (x : Tree) (t : RelType) (s : ℕ) → IsSound info m → type_of (over info m.types) x ≡ Some t
    → MayStand info m x t s → (entered info (Some s) x m).sets.added ≤ MEMBER_LIMIT → (entered info (Some s) x m).set ≢ s
    → (IsCoherent info (entered info (Some s) x m).sets → MayMerge info (entered info (Some s) x m).sets (entered info (Some s) x m).set s
    → Settles info (entered info (Some s) x m).sets new × (became new.numbers (entered info (Some s) x m).set ≡ became new.numbers s))
    → IsUnique new.members → Registers info m (entered info (Some s) x m).sets new x t s
merged-registers info m new x t s sound typed may full apart settles unique =
    let r = entered info (Some s) x m in
    let is = entered-is info x (Some s) m t sound.coherent typed may in
    let both = settles is.extends.coherent (entered-may info m x t r sound.coherent is s typed may apart) in
    let same = both.0.added in
    entered-registers info m x t r sound.coherent is new s both.0 unique (omega arith) (sym both.1)

-- a memo with nothing in it
pub empty-sound : (info : Info) → IsValidSchema info.schema → IsSound info (record { members = []; seeds = []; types = []; numbers = []; added = 0 })
empty-sound info valid = record {
  coherent = record {
    valid = valid;
    seed_count = refl;
    number_count = refl;
    made = omega arith;
    stays = λ k h. absurd (none k h);
    leads = λ k l. absurd (omega arith);
    seeds = λ k t e. absurd (none k (record { found = t; is = e }));
    members = λ s node h. let l = h.at.1 in absurd (omega arith);
  };
  unique = record { once = λ i j d l h e. absurd (omega arith) };
  full = omega arith;
}
  where
    none : (k : ℕ) → IsThere [] k → ⊥
    none k h = let l = there-below [] k h in omega arith
