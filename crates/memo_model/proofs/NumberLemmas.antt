-- What the lists by number tell at a number, also after one more or after a merge.
use Rattle.std.proofs.Common.{◌≡◌, ◌≢◌, ℕ, ◌<◌, ◌≤◌, inl, inr, List, [], ◌∷◌, ◌++◌, map, length, get_or, None, refl, sym, ◌∙◌, ap, arith, cond, true, false, Bool}
use Rattle.std.specs.Prelude.{◌==◌, Option, slice_set}
use Rattle.std.proofs.lemmas.Option.{unwrap_or-slice_get}
use Rattle.std.proofs.lemmas.Bool.{cases_lt, cases_eq}
use Rattle.std.proofs.lemmas.Bool.Decides.{nat_tests}
use Rattle.std.proofs.lemmas.List.{get_or-map, get_or_past, get_or_append_left, get_or_push, get_or-set_same, get_or-set_other, length-map, length_push}
use Rattle.cal_schema.specs.declared.rel_type.RelType.{RelType}
use Rattle.cal_rel.specs.Info.{Info, set_at}
use Rattle.cal_rel.specs.Tree.{Tree, hole}
use Rattle.memo_model.specs.Steps.{in_place}
use Rattle.memo_model.specs.Sets.{Sets, seed_at, became, IsThere}
use Rattle.memo_model.specs.Sound.{IsCoherent}

pub in_place_is : (kept gone k : ℕ) → in_place kept gone k ≡ cond (k == gone) kept k
unfolding in_place
in_place_is kept gone k = refl

pub in_place-gone : (kept gone : ℕ) → in_place kept gone gone ≡ kept
in_place-gone kept gone = in_place_is kept gone gone ∙ picked (gone == gone) kept gone (grind (arith, nat_tests))
  where
    picked : (b : Bool) (x y : ℕ) → b ≡ true → cond b x y ≡ x
    picked b x y h = rw h refl

pub in_place-other : (kept gone k : ℕ) → k ≢ gone → in_place kept gone k ≡ k
in_place-other kept gone k n = in_place_is kept gone k ∙ passed (k == gone) kept k (grind (arith, nat_tests))
  where
    passed : (b : Bool) (x y : ℕ) → b ≡ false → cond b x y ≡ y
    passed b x y h = rw h refl

at_is : (types : List (Option RelType)) (k : ℕ) → set_at types k ≡ get_or types k None
at_is types k = unwrap_or-slice_get types k None

pub there-below : (types : List (Option RelType)) (k : ℕ) → IsThere types k → k < length types
there-below types k h = elim (cases_lt k (length types)) [ inl l ↦ l | inr g ↦ (let e : set_at types k ≡ None = at_is types k ∙ get_or_past types k None g in let i = h.is in absurd cc) ]

pub set_at-push_below : (types : List (Option RelType)) (o : Option RelType) (k : ℕ) → k < length types → set_at (types ++ o ∷ []) k ≡ set_at types k
set_at-push_below types o k l = at_is (types ++ o ∷ []) k ∙ get_or_append_left types (o ∷ []) None k l ∙ sym (at_is types k)

pub set_at-push : (types : List (Option RelType)) (o : Option RelType) → set_at (types ++ o ∷ []) (length types) ≡ o
set_at-push types o = at_is (types ++ o ∷ []) (length types) ∙ get_or_push types o None (length types) refl

pub set_at-push_past : (types : List (Option RelType)) (o : Option RelType) (k : ℕ) → length types < k → set_at (types ++ o ∷ []) k ≡ None
set_at-push_past types o k l = let e = length_push types o in at_is (types ++ o ∷ []) k ∙ get_or_past (types ++ o ∷ []) k None (omega arith)

pub set_at-set : (types : List (Option RelType)) (o : Option RelType) (k : ℕ) → k < length types → set_at (slice_set types k o) k ≡ o
set_at-set types o k l = at_is (slice_set types k o) k ∙ get_or-set_same types k o None l

pub set_at-set_other : (types : List (Option RelType)) (o : Option RelType) (k j : ℕ) → j ≢ k → set_at (slice_set types k o) j ≡ set_at types j
set_at-set_other types o k j n = at_is (slice_set types k o) j ∙ get_or-set_other types k j o None n ∙ sym (at_is types j)

pub seed_at-push_below : (seeds : List Tree) (t : Tree) (k : ℕ) → k < length seeds → seed_at (seeds ++ t ∷ []) k ≡ seed_at seeds k
unfolding seed_at
seed_at-push_below seeds t k l = get_or_append_left seeds (t ∷ []) (hole k) k l

pub seed_at-push : (seeds : List Tree) (t : Tree) (k : ℕ) → length seeds ≡ k → seed_at (seeds ++ t ∷ []) k ≡ t
unfolding seed_at
seed_at-push seeds t k e = get_or_push seeds t (hole k) k e

pub became-past : (numbers : List ℕ) (k : ℕ) → length numbers ≤ k → became numbers k ≡ k
unfolding became
became-past numbers k l = get_or_past numbers k k l

pub became-push : (numbers : List ℕ) (n k : ℕ) → length numbers ≡ n → became (numbers ++ n ∷ []) k ≡ became numbers k
unfolding became
became-push numbers n k e = elim (cases_lt k (length numbers)) [
  | inl l ↦ get_or_append_left numbers (n ∷ []) k k l
  | inr g ↦ past g
]
  where
    last : k ≡ n → get_or (numbers ++ n ∷ []) k k ≡ k
    last h = get_or_push numbers n k k (e ∙ sym h) ∙ sym h

    past : length numbers ≤ k → get_or (numbers ++ n ∷ []) k k ≡ get_or numbers k k
    past g = elim (cases_eq k n) [
      | inl h ↦ last h ∙ sym (get_or_past numbers k k g)
      | inr h ↦ (let l = length_push numbers n in get_or_past (numbers ++ n ∷ []) k k (omega arith) ∙ sym (get_or_past numbers k k g))
    ]

pub became-map : (numbers : List ℕ) (kept gone k : ℕ) → gone < length numbers → became (map (in_place kept gone) numbers) k ≡ in_place kept gone (became numbers k)
unfolding became
became-map numbers kept gone k b = elim (cases_lt k (length numbers)) [
  | inl l ↦ get_or-map (in_place kept gone) numbers k k k l
  | inr g ↦ (
      let e = length-map numbers (in_place kept gone) in
      let n : k ≢ gone = omega arith in
      get_or_past (map (in_place kept gone) numbers) k k (omega arith) ∙ sym (in_place-other kept gone k n) ∙ ap (in_place kept gone) (sym (get_or_past numbers k k g)))
]

pub became-twice : (info : Info) (m : Sets) → IsCoherent info m → (k : ℕ) → became m.numbers (became m.numbers k) ≡ became m.numbers k
became-twice info m coherent k = elim (cases_lt k (length m.numbers)) [
  | inl l ↦ coherent.stays (became m.numbers k) (coherent.leads k l)
  | inr g ↦ ap (became m.numbers) (became-past m.numbers k g)
]
