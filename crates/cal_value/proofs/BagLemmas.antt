-- Two lists are one bag exactly where one is the other in another order.
use Rattle.std.proofs.Common.{◌≡◌, ℕ, zero, suc, ◌+◌, ◌==◌, subst, ◌<◌, Bool, true, false, cond, List, [], ◌∷◌, length, refl, sym, ap, ◌∙◌, arith, get_or}
use Rattle.std.specs.Bool.{Decides}
use Rattle.std.specs.List.{count_by, remove, list_all, fold}
use Rattle.std.specs.List.Sorted.{IsPermutation}
use Rattle.std.proofs.lemmas.List.Sorted.{IsPermutation-refl, IsPermutation-sym, IsPermutation-cons, IsPermutation-trans, IsPermutation-remove, sum_by-IsPermutation}
use Rattle.std.proofs.lemmas.List.Sums.{sum_by-cons, AllPass-from_list_all, list_all-from_AllPass}
use Rattle.cal_value.specs.declared.value.Value.{Value}
use Rattle.cal_value.specs.Equal.{row_eq}
use Rattle.cal_value.specs.EqualLaws.{row_eq-Decides}
use Rattle.cal_value.specs.Order.{SameBag}

pub count_by-IsPermutation : {K : Type 0} (p : K → Bool) (xs ys : List K) → IsPermutation xs ys → count_by p xs ≡ count_by p ys
count_by-IsPermutation p xs ys h = sym (sum_by-IsPermutation (λ x. cond (p x) 1 0) xs ys h)

pub count_by-cons : {K : Type 0} (p : K → Bool) (x : K) (xs : List K) → count_by p (x ∷ xs) ≡ cond (p x) 1 0 + count_by p xs
count_by-cons p x xs = sum_by-cons (λ y. cond (p y) 1 0) x xs

counted : {K : Type 0} (p : K → Bool) (x : K) (xs : List K) → p x ≡ true → count_by p (x ∷ xs) ≡ 1 + count_by p xs
counted p x xs e = count_by-cons p x xs ∙ ap (λ b. cond b 1 0 + count_by p xs) e

passed : {K : Type 0} (p : K → Bool) (x : K) (xs : List K) → p x ≡ false → count_by p (x ∷ xs) ≡ count_by p xs
passed p x xs e = let c = count_by-cons p x xs ∙ ap (λ b. cond b 1 0 + count_by p xs) e in omega (arith, c)

module _ {K : Type 0} (E : K → K → Bool) (d : (a b : K) → Decides (E a b) (a ≡ b)) where
  Found : K → List K → Type 0
  Found x ys = (i : ℕ) × ((i < length ys) × (x ≡ get_or ys i x))

  step : (x y : K) (ys : List K) (b : Bool) → E x y ≡ b → (0 < count_by (E x) ys → Found x ys) → 0 < count_by (E x) (y ∷ ys) → Found x (y ∷ ys)
  unfolding Found
  step x y ys true e more h = (0, (omega arith, (d x y).0 e))
  step x y ys false e more h = let r = more (omega (arith, h, passed (E x) y ys e)) in (suc r.0, (omega (arith, r.1.0), r.1.1))

  found : (x : K) (ys : List K) → 0 < count_by (E x) ys → Found x ys
  found x [] h = absurd (omega arith)
  found x (y ∷ ys) h = step x y ys (E x y) refl (found x ys) h

  pub IsPermutation-from_counts : (xs ys : List K) → ((r : K) → count_by (E r) xs ≡ count_by (E r) ys) → IsPermutation xs ys
  unfolding Found
  IsPermutation-from_counts [] [] h = IsPermutation-refl []
  IsPermutation-from_counts [] (y ∷ ys) h = absurd (omega (arith, h y, counted (E y) y ys ((d y y).1 refl)))
  IsPermutation-from_counts (x ∷ xs) ys h =
      let at = found x ys (omega (arith, h x, counted (E x) x xs ((d x x).1 refl))) in
      let moved = IsPermutation-remove ys at.0 x at.1.0 at.1.1 in
      let rest : (r : K) → count_by (E r) xs ≡ count_by (E r) (remove ys at.0) = λ r. omega (arith, h r, count_by-IsPermutation (E r) ys (x ∷ remove ys at.0) moved, count_by-cons (E r) x xs, count_by-cons (E r) x (remove ys at.0)) in
      IsPermutation-trans (x ∷ xs) (x ∷ remove ys at.0) ys (IsPermutation-cons x xs (remove ys at.0) (IsPermutation-from_counts xs (remove ys at.0) rest)) (IsPermutation-sym ys (x ∷ remove ys at.0) moved)

  -- a fold whose steps may be exchanged is the same over the same items
  module _ {B : Type 0} (f : B → K → B) (exchange : (a : B) (x y : K) → f (f a x) y ≡ f (f a y) x) where
    fold_at : (xs : List K) (i : ℕ) (x : K) (a : B) → i < length xs → x ≡ get_or xs i x → fold f a xs ≡ fold f (f a x) (remove xs i)
    fold_at [] i x a h e = absurd (omega arith)
    fold_at (y ∷ xs) zero x a h e = ap (λ z. fold f (f a z) xs) (sym e)
    fold_at (y ∷ xs) (suc i) x a h e = fold_at xs i x (f a y) (omega arith) e ∙ ap (λ z. fold f z (remove xs i)) (exchange a y x)

    pub fold-from_counts : (xs ys : List K) (a : B) → ((r : K) → count_by (E r) xs ≡ count_by (E r) ys) → fold f a xs ≡ fold f a ys
    unfolding Found
    fold-from_counts [] [] a h = refl
    fold-from_counts [] (y ∷ ys) a h = absurd (omega (arith, h y, counted (E y) y ys ((d y y).1 refl)))
    fold-from_counts (x ∷ xs) ys a h =
        let at = found x ys (omega (arith, h x, counted (E x) x xs ((d x x).1 refl))) in
        let moved = IsPermutation-remove ys at.0 x at.1.0 at.1.1 in
        let rest : (r : K) → count_by (E r) xs ≡ count_by (E r) (remove ys at.0) = λ r. omega (arith, h r, count_by-IsPermutation (E r) ys (x ∷ remove ys at.0) moved, count_by-cons (E r) x xs, count_by-cons (E r) x (remove ys at.0)) in
        fold-from_counts xs (remove ys at.0) (f a x) rest ∙ sym (fold_at ys at.0 x a at.1.0 at.1.1)

pub SameBag-from_IsPermutation : (a b : List (List Value)) → IsPermutation a b → SameBag a b
SameBag-from_IsPermutation a b h r = count_by-IsPermutation (row_eq r) a b h

pub IsPermutation-from_SameBag : (a b : List (List Value)) → SameBag a b → IsPermutation a b
IsPermutation-from_SameBag a b h = IsPermutation-from_counts row_eq row_eq-Decides a b h

-- ---- the test of it: the counts of each row of both lists

abbrev agree : List (List Value) → List (List Value) → List Value → Bool
agree a b r = count_by (row_eq r) a == count_by (row_eq r) b

counts_same : (a b : List (List Value)) (r : List Value) → agree a b r ≡ true → count_by (row_eq r) a ≡ count_by (row_eq r) b
counts_same a b r e = grind arith

in_one : (a b of : List (List Value)) → list_all (agree a b) of ≡ true → (r : List Value) → 0 < count_by (row_eq r) of → count_by (row_eq r) a ≡ count_by (row_eq r) b
unfolding Found
in_one a b of e r h =
    let at = found row_eq row_eq-Decides r of h in
    subst (λ x. count_by (row_eq x) a ≡ count_by (row_eq x) b) (sym at.1.1) (counts_same a b _ (AllPass-from_list_all (agree a b) of e at.0 r at.1.0))

pub SameBag-from_tests : (a b : List (List Value)) → list_all (agree a b) a ≡ true → list_all (agree a b) b ≡ true → SameBag a b
SameBag-from_tests a b p q r = by (count_by (row_eq r) a) (count_by (row_eq r) b) refl refl
  where
    by : (m n : ℕ) → count_by (row_eq r) a ≡ m → count_by (row_eq r) b ≡ n → count_by (row_eq r) a ≡ count_by (row_eq r) b
    by zero zero e f = e ∙ sym f
    by zero (suc n) e f = in_one a b b q r (omega (arith, f))
    by (suc m) n e f = in_one a b a p r (omega (arith, e))

pub tests-from_SameBag : (a b of : List (List Value)) → SameBag a b → list_all (agree a b) of ≡ true
tests-from_SameBag a b of h = list_all-from_AllPass (agree a b) of (λ k d i. grind (arith, h (get_or of k d)))
