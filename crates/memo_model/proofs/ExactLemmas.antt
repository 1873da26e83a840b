-- The induction over a tree that is entered: it was known as a whole, or it stood nowhere.
use Rattle.std.proofs.Common.{◌≡◌, ℕ, ◌+◌, ◌<◌, ◌≤◌, ◌⊎◌, inl, inr, List, length, Some, None, refl, ◌∙◌, arith}
use Rattle.cal_schema.specs.declared.rel_type.RelType.{RelType}
use Rattle.cal_rel.specs.Holes.{EachHole}
use Rattle.cal_rel.specs.Info.{Info}
use Rattle.cal_rel.specs.Tree.{Unary, Binary, Tree, leaf, unary, binary, hole}
use Rattle.cal_rel.specs.Typing.{type_of, unary_type, binary_type}
use Rattle.cal_rel.proofs.RowLemmas.{of_both-some}
use Rattle.cal_rel.proofs.TrueTypes.{and_then-some}
use Rattle.memo_model.specs.Sets.{Sets, IsThere, Has, Stands}
use Rattle.memo_model.specs.Sound.{over, IsCoherent, IsUnique}
use Rattle.memo_model.specs.Steps.{found, joint_type, Placed, placed, entered}
use Rattle.memo_model.proofs.NumberLemmas.{there-below}
use Rattle.memo_model.proofs.StandLemmas.{stands-once}
use Rattle.memo_model.proofs.ExtendLemmas.{type-more}
use Rattle.memo_model.proofs.EnteredLemmas.{entered-is}
use Rattle.memo_model.proofs.FreshLemmas.{WasKnown, WasNew, IsLast, IsAbove, IsOldNode, IsNewNode, place-none, place-some, above-placed}

-- a set in which a well-formed tree stands was made
stands-below : (info : Info) (m : Sets) → IsCoherent info m → (x : Tree) (t : RelType) → type_of (over info m.types) x ≡ Some t → (s : ℕ) → Stands m.members s x → s < length m.types
stands-below info m coherent (leaf l) t e s h = there-below m.types s (coherent.members s (leaf l) h).there
stands-below info m coherent (unary u x) t e s h = there-below m.types s (coherent.members s (unary u (hole h.0)) h.1).there
stands-below info m coherent (binary n a b) t e s h = there-below m.types s (coherent.members s (binary n (hole h.0) (hole h.1)) h.2).there
stands-below info m coherent (hole k) t e s h = let l = there-below m.types k (record { found = t; is = e }) in omega arith

pub record IsTold (m : Sets) (x : Tree) (r : Placed) : Type 0 where
  pub cases : WasKnown m x r ⊎ IsLast m x r
  pub above : IsAbove m r.sets
  pub long : length m.types ≤ length r.sets.types
  pub below : r.set < length r.sets.types

told-below : (info : Info) (m : Sets) → IsCoherent info m → (x : Tree) (t : RelType) → type_of (over info m.types) x ≡ Some t → (r : Placed)
    → WasKnown m x r ⊎ IsLast m x r → r.set < length r.sets.types
told-below info m coherent x t e r (inl known) = let l = stands-below info m coherent x t e r.set known.stood in let n = known.long in omega arith
told-below info m coherent x t e r (inr last) = let n = last.last in omega arith

told-long : (m : Sets) (x : Tree) (r : Placed) → WasKnown m x r ⊎ IsLast m x r → length m.types ≤ length r.sets.types
told-long m x r (inl known) = let n = known.long in omega arith
told-long m x r (inr last) = let n = last.last in let l = last.new in omega arith

above-itself : (m : Sets) → IsAbove m m
above-itself m = λ s y h. inl h

-- a node over the last new set is nowhere
absent-one : (info : Info) (m : Sets) → IsCoherent info m → (r : Placed) → IsAbove m r.sets → length m.types ≤ r.set → length r.sets.types ≡ r.set + 1
    → (node : Tree) → (EachHole (IsThere m.types) node → IsThere m.types r.set) → ((k : ℕ) → EachHole (λ j. j < k) node → r.set < k) → (k : ℕ) → Has r.sets.members k node → ⊥
absent-one info m coherent r above new last node old_hole new_hole k h = elim (above k node h) [
  | inl old ↦ (let l = there-below m.types r.set (old_hole (coherent.members k node old).holes) in absurd (omega arith))
  | inr e ↦ (let a = e.0 in let b = new_hole k e.1 in absurd (omega arith))
]

node-unary : (info : Info) (m : Sets) (u : Unary) (x : Tree) (r : Placed) → IsCoherent info m → IsUnique m.members → IsAbove m r.sets
    → WasKnown m x r ⊎ IsLast m x r → IsOldNode m r.sets (unary u x) (unary u (hole r.set)) ⊎ IsNewNode m r.sets (unary u x) (unary u (hole r.set))
node-unary info m u x r coherent unique above (inl known) = inl (record {
  members = known.members;
  long = known.long;
  added = known.added;
  stands = λ k h. (r.set, h, known.stood);
  has = λ k h. let e = stands-once m.members unique h.0 r.set x h.2 known.stood in rw (← e) h.1;
})
node-unary info m u x r coherent unique above (inr last) = inr (record {
  added = last.added;
  long = let a = last.new in let l = last.last in omega arith;
  absent = absent-one info m coherent r above last.new last.last (unary u (hole r.set)) (λ h. h) (λ k h. h);
  nowhere = λ k h. last.nowhere h.0 h.2;
})

above-both : (m l n : Sets) → length l.types ≤ length n.types → IsAbove m l → IsAbove l n → IsAbove m n
above-both m l n long h k = λ s y has. elim (k s y has) [
  | inl old ↦ elim (h s y old) [ inl e ↦ inl e | inr e ↦ (let a = e.0 in inr (omega arith, e.1)) ]
  | inr e ↦ inr e
]

node-binary : (info : Info) (m : Sets) (n : Binary) (a b : Tree) (l r : Placed) → IsCoherent info m → IsUnique m.members → IsAbove m r.sets → length m.types ≤ length l.sets.types
    → WasKnown m a l ⊎ IsLast m a l → WasKnown l.sets b r ⊎ IsLast l.sets b r
    → IsOldNode m r.sets (binary n a b) (binary n (hole l.set) (hole r.set)) ⊎ IsNewNode m r.sets (binary n a b) (binary n (hole l.set) (hole r.set))
node-binary info m n a b l r coherent unique above long (inl left) (inl right) = inl (record {
  members = right.members ∙ left.members;
  long = right.long ∙ left.long;
  added = right.added ∙ left.added;
  stands = λ k h. let on : Stands m.members r.set b = rw left.members at right.stood in (l.set, r.set, h, left.stood, on);
  has = λ k h.
      let on : Stands m.members r.set b = rw left.members at right.stood in
      let e = stands-once m.members unique h.0 l.set a h.3 left.stood in
      let f = stands-once m.members unique h.1 r.set b h.4 on in
      rw (← e, ← f) h.2;
})
node-binary info m n a b l r coherent unique above long (inl left) (inr right) = inr (record {
  added = let x = left.added in let y = right.added in omega arith;
  long = let x = right.new in let y = right.last in omega arith;
  absent = absent-one info m coherent r above (let x = right.new in omega arith) right.last (binary n (hole l.set) (hole r.set)) (λ h. h.1) (λ k h. h.1);
  nowhere = λ k h. let on : Stands l.sets.members h.1 b = rw left.members h.4 in right.nowhere h.1 on;
})
node-binary info m n a b l r coherent unique above long (inr left) (inr right) = inr (record {
  added = let x = left.added in let y = right.added in omega arith;
  long = let x = right.new in let y = right.last in omega arith;
  absent = absent-one info m coherent r above (let x = right.new in omega arith) right.last (binary n (hole l.set) (hole r.set)) (λ h. h.1) (λ k h. h.1);
  nowhere = λ k h. left.nowhere h.0 h.3;
})
node-binary info m n a b l r coherent unique above long (inr left) (inl right) =
    let at : Placed = record { sets = r.sets; set = l.set } in
    inr (record {
      added = let x = left.added in let y = right.added in omega arith;
      long = let x = right.long in omega arith;
      absent = absent-one info m coherent at above left.new (right.long ∙ left.last) (binary n (hole l.set) (hole r.set)) (λ h. h.0) (λ k h. h.0);
      nowhere = λ k h. left.nowhere h.0 h.3;
    })

-- the node is placed in a set of its own, or found
told-placed : (info : Info) (m mid : Sets) (x node : Tree) (t : RelType) → IsCoherent info m → type_of (over info m.types) x ≡ Some t → IsAbove m mid → length m.types ≤ length mid.types
    → EachHole (λ k. k < length mid.types) node → IsOldNode m mid x node ⊎ IsNewNode m mid x node → IsTold m x (placed info None x node mid)
told-placed info m mid x node t coherent e above long holes cases =
    let own = joint_type info mid.types x node in
    let r = placed info None x node mid in
    let is = place-none m mid x node own (found node mid.members) refl cases in
    record {
      cases = is;
      above = above-placed m mid x node own (found node mid.members) above holes long;
      long = told-long m x r is;
      below = told-below info m coherent x t e r is;
    }

pub told : (info : Info) (x : Tree) (m : Sets) (t : RelType) → IsCoherent info m → IsUnique m.members → type_of (over info m.types) x ≡ Some t → IsTold m x (entered info None x m)
told info (leaf l) m t coherent unique e =
    told-placed info m m (leaf l) (leaf l) t coherent e (above-itself m) (omega arith) tt
    (inl (record { members = refl; long = refl; added = refl; stands = λ k h. h; has = λ k h. h }))
told info (unary u x) m t coherent unique e =
    let i = and_then-some (unary_type u) (type_of (over info m.types) x) t e in
    let r = entered info None x m in
    let below = told info x m i.from coherent unique i.found in
    told-placed info m r.sets (unary u x) (unary u (hole r.set)) t coherent e below.above below.long below.below (node-unary info m u x r coherent unique below.above below.cases)
told info (binary n a b) m t coherent unique e =
    let i = of_both-some (binary_type (over info m.types) n a b) (type_of (over info m.types) a) (type_of (over info m.types) b) t e in
    let l = entered info None a m in
    let r = entered info None b l.sets in
    let in_left = entered-is info a None m i.first coherent i.first_is tt in
    let v = type-more info m l.sets coherent.valid in_left.extends.types b i.second i.second_is in
    let left = told info a m i.first coherent unique i.first_is in
    let right = told info b l.sets v.found in_left.extends.coherent (in_left.unique unique) v.is in
    let above = above-both m l.sets r.sets right.long left.above right.above in
    let first = left.below in
    let wide = right.long in
    let deep = left.long in
    told-placed info m r.sets (binary n a b) (binary n (hole l.set) (hole r.set)) t coherent e above (omega arith) (omega arith, right.below)
    (node-binary info m n a b l r coherent unique above left.long left.cases right.cases)
told info (hole k) m t coherent unique e = record {
  cases = inl (record { stood = refl; members = refl; long = refl; added = refl });
  above = above-itself m;
  long = omega arith;
  below = there-below m.types k (record { found = t; is = e });
}

-- a tree that is entered with a target: it was known as a whole, or stood nowhere and is in the target now
root-placed : (info : Info) (s : ℕ) (m mid : Sets) (x node : Tree) → IsOldNode m mid x node ⊎ IsNewNode m mid x node
    → WasKnown m x (placed info (Some s) x node mid) ⊎ (WasNew m x (placed info (Some s) x node mid) × ((placed info (Some s) x node mid).set ≡ s))
root-placed info s m mid x node cases = place-some m mid x node (joint_type info mid.types x node) s (found node mid.members) refl cases

pub exact : (info : Info) (s : ℕ) (x : Tree) (m : Sets) (t : RelType) → IsCoherent info m → IsUnique m.members → type_of (over info m.types) x ≡ Some t
    → WasKnown m x (entered info (Some s) x m) ⊎ (WasNew m x (entered info (Some s) x m) × ((entered info (Some s) x m).set ≡ s))
exact info s (leaf l) m t coherent unique e =
    root-placed info s m m (leaf l) (leaf l) (inl (record { members = refl; long = refl; added = refl; stands = λ k h. h; has = λ k h. h }))
exact info s (unary u x) m t coherent unique e =
    let i = and_then-some (unary_type u) (type_of (over info m.types) x) t e in
    let r = entered info None x m in
    let below = told info x m i.from coherent unique i.found in
    root-placed info s m r.sets (unary u x) (unary u (hole r.set)) (node-unary info m u x r coherent unique below.above below.cases)
exact info s (binary n a b) m t coherent unique e =
    let i = of_both-some (binary_type (over info m.types) n a b) (type_of (over info m.types) a) (type_of (over info m.types) b) t e in
    let l = entered info None a m in
    let r = entered info None b l.sets in
    let in_left = entered-is info a None m i.first coherent i.first_is tt in
    let v = type-more info m l.sets coherent.valid in_left.extends.types b i.second i.second_is in
    let left = told info a m i.first coherent unique i.first_is in
    let right = told info b l.sets v.found in_left.extends.coherent (in_left.unique unique) v.is in
    let above = above-both m l.sets r.sets right.long left.above right.above in
    root-placed info s m r.sets (binary n a b) (binary n (hole l.set) (hole r.set)) (node-binary info m n a b l r coherent unique above left.long left.cases right.cases)
exact info s (hole k) m t coherent unique e = inl (record { stood = refl; members = refl; long = refl; added = refl })
