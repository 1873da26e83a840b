-- Lists of actors and of places.
use Rattle.std.proofs.Common.{◌≡◌, ◌≢◌, ℕ, zero, suc, ◌+◌, ◌-◌, ◌<◌, ◌≤◌, List, [], ◌∷◌, ◌++◌, length, get_or, take, drop, refl, sym, ap, ◌∙◌, subst, ◌⊎◌, inl, inr, ⊎_elim, cond, slice_index, arith, length-drop}
use Rattle.std.specs.List.{Contains, range_with_len, remove}
use Rattle.std.specs.List.Sorted.{IsStrictlyIncreasing, IsPermutation}
use Rattle.std.proofs.lemmas.List.{nil_from_length, take-append-drop, length-take-le}
use Rattle.std.proofs.lemmas.List.FromFn.{length-range_with_len}
use Rattle.std.proofs.Math.Seq.{take-append_seam, drop-append_seam}
use Rattle.std.proofs.lemmas.List.Sorted.{IsPermutation-refl, IsPermutation-trans, IsPermutation-cons, IsPermutation-remove, Contains-permutation, length_permutation}
use Rattle.turn_lock.specs.Actors.{put, merged, lower, upper}
use Rattle.turn_lock.proofs.Comparing.{by_lt}

-- a is in the list, by recursion
abbrev Has : List ℕ → ℕ → Type 0
Has [] a = ⊥
Has (x ∷ xs) a = (x ≡ a) ⊎ Has xs a

-- each number is greater than the one before, and the first is at least `low`
abbrev Rising : ℕ → List ℕ → Type 0
Rising low [] = Unit {0}
Rising low (x ∷ xs) = (low ≤ x) × Rising (x + 1) xs

has_at : (xs : List ℕ) (a k : ℕ) → k < length xs → get_or xs k a ≡ a → Has xs a
has_at [] a k h e = absurd (omega arith)
has_at (x ∷ xs) a zero h e = inl e
has_at (x ∷ xs) a (suc k) h e = inr (has_at xs a k (omega arith) e)

has : (xs : List ℕ) (a : ℕ) → Contains xs a → Has xs a
has xs a c = has_at xs a c.0 c.1 c.2

contains : (xs : List ℕ) (a : ℕ) → Has xs a → Contains xs a
contains [] a h = absurd h
contains (x ∷ xs) a h = ⊎_elim (λ e. (0, omega arith, e)) (λ t. let c = contains xs a t in (suc c.0, omega (arith, c.1), c.2)) h

rising_from : (low : ℕ) (xs : List ℕ) → IsStrictlyIncreasing xs → (0 < length xs → low ≤ slice_index xs 0) → Rising low xs
rising_from low [] up first = tt
rising_from low (x ∷ xs) up first = (
  first (omega arith),
  rising_from (x + 1) xs
      (λ k h. let e : suc k + 1 ≡ suc (k + 1) = omega arith in subst (λ j. slice_index (x ∷ xs) (suc k) < slice_index (x ∷ xs) j) e (up (suc k) (omega (arith, h))))
      (λ h. omega (arith, up 0 (omega (arith, h)))),
)

rising : (xs : List ℕ) → IsStrictlyIncreasing xs → Rising 0 xs
rising xs up = rising_from 0 xs up (λ _. omega arith)

increasing : (low : ℕ) (xs : List ℕ) → Rising low xs → IsStrictlyIncreasing xs
increasing low [] r k h = absurd (omega arith)
increasing low (x ∷ []) r zero h = absurd (omega arith)
increasing low (x ∷ y ∷ ys) r zero h = omega (arith, r.1.0)
increasing low (x ∷ xs) r (suc k) h = let e : suc (k + 1) ≡ suc k + 1 = omega arith in subst (λ j. slice_index (x ∷ xs) (suc k) < slice_index (x ∷ xs) j) e (increasing (x + 1) xs r.1 k (omega (arith, h)))

run_has : (low n a : ℕ) → low ≤ a → a < low + n → Has (range_with_len low n) a
run_has low zero a l h = absurd (omega arith)
run_has low (suc n) a l h = by_lt low a (λ _. (low ≡ a) ⊎ Has (range_with_len (low + 1) n) a) (λ more. inr (run_has (low + 1) n a (omega arith) (omega arith))) (λ le. inl (omega arith))

has_run : (low n a : ℕ) → Has (range_with_len low n) a → (low ≤ a) × (a < low + n)
has_run low zero a h = absurd h
has_run low (suc n) a h = ⊎_elim (λ (e : low ≡ a). (omega arith, omega arith)) (λ t. let r = has_run (low + 1) n a t in (omega (arith, r.0), omega (arith, r.1))) h

run_rising : (low n : ℕ) → Rising low (range_with_len low n)
run_rising low zero = tt
run_rising low (suc n) = (omega arith, run_rising (low + 1) n)

pub range_contains : (low n a : ℕ) → low ≤ a → a < low + n → Contains (range_with_len low n) a
range_contains low n a l h = contains (range_with_len low n) a (run_has low n a l h)

pub range_bounds : (low n a : ℕ) → Contains (range_with_len low n) a → (low ≤ a) × (a < low + n)
range_bounds low n a c = has_run low n a (has (range_with_len low n) a c)

pub range_rises : (low n : ℕ) → IsStrictlyIncreasing (range_with_len low n)
range_rises low n = increasing low (range_with_len low n) (run_rising low n)

rising_has : (low : ℕ) (xs : List ℕ) (a : ℕ) → Rising low xs → Has xs a → low ≤ a
rising_has low [] a r h = absurd h
rising_has low (x ∷ xs) a r h = ⊎_elim (λ (e : x ≡ a). omega (arith, r.0)) (λ t. omega (arith, r.0, rising_has (x + 1) xs a r.1 t)) h

rising_lower : (low high : ℕ) (xs : List ℕ) → low ≤ high → Rising high xs → Rising low xs
rising_lower low high [] l r = tt
rising_lower low high (x ∷ xs) l r = (omega (arith, r.0), r.1)

has_take : (k : ℕ) (xs : List ℕ) (a : ℕ) → Has (take k xs) a → Has xs a
has_take zero xs a h = absurd h
has_take (suc k) [] a h = absurd h
has_take (suc k) (x ∷ xs) a h = ⊎_elim (λ e. inl e) (λ t. inr (has_take k xs a t)) h

has_drop : (k : ℕ) (xs : List ℕ) (a : ℕ) → Has (drop k xs) a → Has xs a
has_drop zero xs a h = h
has_drop (suc k) [] a h = absurd h
has_drop (suc k) (x ∷ xs) a h = inr (has_drop k xs a h)

has_part : (k : ℕ) (xs : List ℕ) (a : ℕ) → Has xs a → Has (take k xs) a ⊎ Has (drop k xs) a
has_part zero xs a h = inr h
has_part (suc k) [] a h = absurd h
has_part (suc k) (x ∷ xs) a h = ⊎_elim (λ e. inl (inl e)) (λ t. ⊎_elim (λ l. inl (inr l)) (λ r. inr r) (has_part k xs a t)) h

rising_take : (low k : ℕ) (xs : List ℕ) → Rising low xs → Rising low (take k xs)
rising_take low zero xs r = tt
rising_take low (suc k) [] r = tt
rising_take low (suc k) (x ∷ xs) r = (r.0, rising_take (x + 1) k xs r.1)

rising_drop : (low k : ℕ) (xs : List ℕ) → Rising low xs → Rising low (drop k xs)
rising_drop low zero xs r = r
rising_drop low (suc k) [] r = tt
rising_drop low (suc k) (x ∷ xs) r = rising_lower low (x + 1) (drop k xs) (omega (arith, r.0)) (rising_drop (x + 1) k xs r.1)

parts_apart : (low k : ℕ) (xs : List ℕ) (a : ℕ) → Rising low xs → Has (take k xs) a → Has (drop k xs) a → ⊥
parts_apart low zero xs a r h g = h
parts_apart low (suc k) [] a r h g = h
parts_apart low (suc k) (x ∷ xs) a r h g = ⊎_elim (λ (e : x ≡ a). absurd (omega (arith, rising_has (x + 1) xs a r.1 (has_drop k xs a g)))) (λ t. parts_apart (x + 1) k xs a r.1 t g) h

-- a list is cut in two
module _ (n : ℕ) (xs : List ℕ) where
  pub lower_in : (a : ℕ) → Contains (lower n xs) a → Contains xs a
  lower_in a c = contains xs a (has_take (length xs - n) xs a (has (lower n xs) a c))

  pub upper_in : (a : ℕ) → Contains (upper n xs) a → Contains xs a
  upper_in a c = contains xs a (has_drop (length xs - n) xs a (has (upper n xs) a c))

  pub in_parts : (a : ℕ) → Contains xs a → Contains (lower n xs) a ⊎ Contains (upper n xs) a
  in_parts a c = ⊎_elim (λ l. inl (contains (lower n xs) a l)) (λ r. inr (contains (upper n xs) a r)) (has_part (length xs - n) xs a (has xs a c))

  pub parts_whole : lower n xs ++ upper n xs ≡ xs
  parts_whole = take-append-drop (length xs - n) xs

  module _ (fits : n ≤ length xs) where
    pub length-lower : length (lower n xs) + n ≡ length xs
    length-lower = omega (arith, fits, length-take-le (length xs - n) xs (omega arith))

    pub length-upper : length (upper n xs) ≡ n
    length-upper = omega (arith, fits, length-drop (length xs - n) xs)

  module _ (up : IsStrictlyIncreasing xs) where
    pub lower_rises : IsStrictlyIncreasing (lower n xs)
    lower_rises = increasing 0 (lower n xs) (rising_take 0 (length xs - n) xs (rising xs up))

    pub upper_rises : IsStrictlyIncreasing (upper n xs)
    upper_rises = increasing 0 (upper n xs) (rising_drop 0 (length xs - n) xs (rising xs up))

    pub parts_differ : (a : ℕ) → Contains (lower n xs) a → ¬ Contains (upper n xs) a
    parts_differ a c d = parts_apart 0 (length xs - n) xs a (rising xs up) (has (lower n xs) a c) (has (upper n xs) a d)

range_append : (low m n : ℕ) → range_with_len low (m + n) ≡ range_with_len low m ++ range_with_len (low + m) n
range_append low zero n = let e : zero + n ≡ n = omega arith in let f : low ≡ low + zero = omega arith in λ i. range_with_len (f i) (e i)
range_append low (suc m) n = let e : suc m + n ≡ suc (m + n) = omega arith in let f : (low + 1) + m ≡ low + suc m = omega arith in
    ap (range_with_len low) e ∙ ap (λ l. low ∷ l) (range_append (low + 1) m n ∙ ap (λ k. range_with_len (low + 1) m ++ range_with_len k n) f)

-- numbers in a row are cut in two
module _ (low m n : ℕ) where
  abbrev first_part : List ℕ
  first_part = range_with_len low m

  abbrev last_part : List ℕ
  last_part = range_with_len (low + m) n

  cut_at : length (range_with_len low (m + n)) - n ≡ length first_part
  cut_at = omega (arith, length-range_with_len low (m + n), length-range_with_len low m)

  pub lower_range : lower n (range_with_len low (m + n)) ≡ range_with_len low m
  lower_range = (λ i. take (cut_at i) (range_append low m n i)) ∙ take-append_seam first_part last_part

  pub upper_range : upper n (range_with_len low (m + n)) ≡ range_with_len (low + m) n
  upper_range = (λ i. drop (cut_at i) (range_append low m n i)) ∙ drop-append_seam first_part last_part

has_put : (a : ℕ) (xs : List ℕ) (c : ℕ) → Has (put a xs) c → (a ≡ c) ⊎ Has xs c
has_put a [] c h = ⊎_elim (λ e. inl e) (λ t. absurd t) h
has_put a (x ∷ xs) c h = by_lt a x (λ b. Has (cond b (a ∷ x ∷ xs) (x ∷ put a xs)) c → (a ≡ c) ⊎ Has (x ∷ xs) c) (λ _ g. g)
    (λ _ g. ⊎_elim (λ e. inr (inl e)) (λ t. ⊎_elim (λ e. inl e) (λ u. inr (inr u)) (has_put a xs c t)) g) h

put_has : (a : ℕ) (xs : List ℕ) (c : ℕ) → (a ≡ c) ⊎ Has xs c → Has (put a xs) c
put_has a [] c h = h
put_has a (x ∷ xs) c h = by_lt a x (λ b. Has (cond b (a ∷ x ∷ xs) (x ∷ put a xs)) c) (λ _. h)
    (λ _. ⊎_elim (λ e. inr (put_has a xs c (inl e))) (λ t. ⊎_elim (λ e. inl e) (λ u. inr (put_has a xs c (inr u))) t) h)

put_length : (a : ℕ) (xs : List ℕ) → length (put a xs) ≡ length xs + 1
put_length a [] = refl
put_length a (x ∷ xs) = by_lt a x (λ b. length (cond b (a ∷ x ∷ xs) (x ∷ put a xs)) ≡ length (x ∷ xs) + 1) (λ _. omega arith) (λ _. omega (arith, put_length a xs))

put_rising : (low a : ℕ) (xs : List ℕ) → low ≤ a → Rising low xs → ¬ Has xs a → Rising low (put a xs)
put_rising low a [] l r missing = (l, tt)
put_rising low a (x ∷ xs) l r missing = by_lt a x (λ b. Rising low (cond b (a ∷ x ∷ xs) (x ∷ put a xs))) (λ below. (l, (omega arith, r.1)))
    (λ above. (r.0, let apart : x ≢ a = λ e. missing (inl e) in put_rising (x + 1) a xs (omega arith) r.1 (λ h. missing (inr h))))

has_merged : (xs ys : List ℕ) (a : ℕ) → Has (merged xs ys) a → Has xs a ⊎ Has ys a
has_merged xs [] a h = inl h
has_merged xs (y ∷ ys) a h = ⊎_elim (λ e. inr (inl e)) (λ t. ⊎_elim (λ l. inl l) (λ r. inr (inr r)) (has_merged xs ys a t)) (has_put y (merged xs ys) a h)

merged_has : (xs ys : List ℕ) (a : ℕ) → Has xs a ⊎ Has ys a → Has (merged xs ys) a
merged_has xs [] a h = ⊎_elim (λ l. l) (λ r. absurd r) h
merged_has xs (y ∷ ys) a h = put_has y (merged xs ys) a (⊎_elim (λ l. inr (merged_has xs ys a (inl l))) (λ r. ⊎_elim (λ e. inl e) (λ t. inr (merged_has xs ys a (inr t))) r) h)

merged_rising : (low : ℕ) (xs ys : List ℕ) → Rising 0 xs → Rising low ys → ((a : ℕ) → Has xs a → Has ys a → ⊥) → Rising 0 (merged xs ys)
merged_rising low xs [] r t apart = r
merged_rising low xs (y ∷ ys) r t apart = put_rising 0 y (merged xs ys) (omega arith) (merged_rising (y + 1) xs ys r t.1 (λ a h g. apart a h (inr g)))
    (λ h. ⊎_elim (λ l. apart y l (inl refl)) (λ g. absurd (omega (arith, rising_has (y + 1) ys y t.1 g))) (has_merged xs ys y h))

-- two lists become one
pub length-merged : (xs ys : List ℕ) → length (merged xs ys) ≡ length xs + length ys
length-merged xs [] = omega arith
length-merged xs (y ∷ ys) = omega (arith, put_length y (merged xs ys), length-merged xs ys)

module _ (xs ys : List ℕ) where
  pub merged_in : (a : ℕ) → Contains (merged xs ys) a → Contains xs a ⊎ Contains ys a
  merged_in a c = ⊎_elim (λ l. inl (contains xs a l)) (λ r. inr (contains ys a r)) (has_merged xs ys a (has (merged xs ys) a c))

  pub in_merged : (a : ℕ) → Contains xs a ⊎ Contains ys a → Contains (merged xs ys) a
  in_merged a c = contains (merged xs ys) a (merged_has xs ys a (⊎_elim (λ l. inl (has xs a l)) (λ r. inr (has ys a r)) c))

  pub merged_rises : IsStrictlyIncreasing xs → IsStrictlyIncreasing ys → ((a : ℕ) → Contains xs a → ¬ Contains ys a) → IsStrictlyIncreasing (merged xs ys)
  merged_rises up up' apart = increasing 0 (merged xs ys) (merged_rising 0 xs ys (rising xs up) (rising ys up') (λ a h g. apart a (contains xs a h) (contains ys a g)))

-- a list of n numbers that has all n from `low` on
pub IsPermutation-range_with_len : (n low : ℕ) (xs : List ℕ) → length xs ≡ n → ((p : ℕ) → low ≤ p → p < low + n → Contains xs p) → IsPermutation xs (range_with_len low n)
IsPermutation-range_with_len zero low xs size each = subst (λ l. IsPermutation xs l) (nil_from_length xs size) (IsPermutation-refl xs)
IsPermutation-range_with_len (suc n) low xs size each = let here = each low (omega arith) (omega arith) in let others : List ℕ = remove xs here.0 in
    let front : IsPermutation xs (low ∷ others) = IsPermutation-remove xs here.0 low here.1 (sym here.2) in
    let left : length others ≡ n = omega (arith, length_permutation xs (low ∷ others) front, size) in
    IsPermutation-trans xs (low ∷ others) (low ∷ range_with_len (low + 1) n) front
    (IsPermutation-cons low others (range_with_len (low + 1) n)
    (IsPermutation-range_with_len n (low + 1) others left
    (λ p l h. ⊎_elim (λ (e : low ≡ p). absurd (omega arith)) (λ t. contains others p t) (has (low ∷ others) p (Contains-permutation xs (low ∷ others) p front (each p (omega arith) (omega arith)))))))
