-- Lists that weigh the same under whatever weights their elements have: the same bag, kept by each way to make rows of rows.
use Rattle.std.proofs.Common.{◌≡◌, ℕ, ◌+◌, Bool, true, false, cond, List, [], ◌∷◌, ◌++◌, map, filter, length, refl, sym, ◌∙◌, ap, arith, zero-add, add_assoc}
use Rattle.std.specs.List.{flat_map, sum_by}
use Rattle.std.proofs.lemmas.List.Sorted.{sum_by-IsPermutation}
use Rattle.std.proofs.lemmas.List.Sums.{sum_by-cons}
use Rattle.cal_value.specs.Equal.{row_eq}
use Rattle.cal_value.specs.Order.{SameBag}
use Rattle.cal_value.proofs.BagLemmas.{IsPermutation-from_SameBag}
use Rattle.cal_rel.specs.Operators.{Row}

abbrev pub total : {A : Type 0} → (A → ℕ) → List A → ℕ
total f [] = 0
total f (x ∷ xs) = f x + total f xs

pub record Weighs {A : Type 0} (a b : List A) : Type 0 where
  pub same : (f : A → ℕ) → total f a ≡ total f b

pub total-sum_by : {A : Type 0} (f : A → ℕ) (xs : List A) → total f xs ≡ sum_by f xs
total-sum_by f [] = refl
total-sum_by f (x ∷ xs) = ap (λ n. f x + n) (total-sum_by f xs) ∙ sym (sum_by-cons f x xs)

pub Weighs-from_SameBag : (a b : List Row) → SameBag a b → Weighs a b
Weighs-from_SameBag a b h = record { same = λ f. total-sum_by f a ∙ sym (sum_by-IsPermutation f a b (IsPermutation-from_SameBag a b h)) ∙ sym (total-sum_by f b) }

abbrev one_if : (Row → Bool) → Row → ℕ
one_if p row = cond (p row) 1 0

pub SameBag-from_Weighs : (a b : List Row) → Weighs a b → SameBag a b
SameBag-from_Weighs a b h r = sym (total-sum_by (one_if (row_eq r)) a) ∙ h.same (one_if (row_eq r)) ∙ total-sum_by (one_if (row_eq r)) b

pub weighs-refl : {A : Type 0} (a : List A) → Weighs a a
weighs-refl a = record { same = λ f. refl }

pub weighs-sym : {A : Type 0} (a b : List A) → Weighs a b → Weighs b a
weighs-sym a b h = record { same = λ f. sym (h.same f) }

pub weighs-trans : {A : Type 0} (a b c : List A) → Weighs a b → Weighs b c → Weighs a c
weighs-trans a b c h k = record { same = λ f. h.same f ∙ k.same f }

pub total-append : {A : Type 0} (f : A → ℕ) (a b : List A) → total f (a ++ b) ≡ total f a + total f b
total-append f [] b = sym (zero-add (total f b))
total-append f (x ∷ a) b = ap (λ n. f x + n) (total-append f a b) ∙ sym (add_assoc (f x) (total f a) (total f b))

pub total-map : {A B : Type 0} (f : B → ℕ) (g : A → B) (a : List A) → total f (map g a) ≡ total (λ x. f (g x)) a
total-map f g [] = refl
total-map f g (x ∷ a) = ap (λ n. f (g x) + n) (total-map f g a)

total-filter_one : {A : Type 0} (f : A → ℕ) (p : A → Bool) (b : Bool) (x : A) (a : List A) → total f (filter p a) ≡ total (λ x. cond (p x) (f x) 0) a
    → total f (cond b (x ∷ filter p a) (filter p a)) ≡ cond b (f x) 0 + total (λ x. cond (p x) (f x) 0) a
total-filter_one f p true x a h = ap (λ n. f x + n) h
total-filter_one f p false x a h = h ∙ sym (zero-add _)

pub total-filter : {A : Type 0} (f : A → ℕ) (p : A → Bool) (a : List A) → total f (filter p a) ≡ total (λ x. cond (p x) (f x) 0) a
total-filter f p [] = refl
total-filter f p (x ∷ a) = total-filter_one f p (p x) x a (total-filter f p a)

pub total-flat_map : {A B : Type 0} (f : B → ℕ) (g : A → List B) (a : List A) → total f (flat_map g a) ≡ total (λ x. total f (g x)) a
total-flat_map f g [] = refl
total-flat_map f g (x ∷ a) = total-append f (g x) (flat_map g a) ∙ ap (λ n. total f (g x) + n) (total-flat_map f g a)

pub total-ext : {A : Type 0} (f g : A → ℕ) → ((x : A) → f x ≡ g x) → (a : List A) → total f a ≡ total g a
total-ext f g h [] = refl
total-ext f g h (x ∷ a) = ap (λ n. n + total f a) (h x) ∙ ap (λ n. g x + n) (total-ext f g h a)

pub total-plus : {A : Type 0} (f g : A → ℕ) (a : List A) → total (λ x. f x + g x) a ≡ total f a + total g a
total-plus f g [] = refl
total-plus f g (x ∷ a) = let h = total-plus f g a in omega arith

pub total-one : {A : Type 0} (a : List A) → total (λ x. 1) a ≡ length a
total-one [] = refl
total-one (x ∷ a) = let h = total-one a in omega arith

pub same-length : {A : Type 0} (a b : List A) → Weighs a b → length a ≡ length b
same-length a b h = sym (total-one a) ∙ h.same (λ x. 1) ∙ total-one b

-- ---- what keeps it

pub same-append : {A : Type 0} (a b c d : List A) → Weighs a b → Weighs c d → Weighs (a ++ c) (b ++ d)
same-append a b c d h k = record { same = λ f. total-append f a c ∙ ap (λ n. n + total f c) (h.same f) ∙ ap (λ n. total f b + n) (k.same f) ∙ sym (total-append f b d) }

pub same-filter : {A : Type 0} (p : A → Bool) (a b : List A) → Weighs a b → Weighs (filter p a) (filter p b)
same-filter p a b h = record { same = λ f. total-filter f p a ∙ h.same (λ x. cond (p x) (f x) 0) ∙ sym (total-filter f p b) }

pub same-map : {A B : Type 0} (g : A → B) (a b : List A) → Weighs a b → Weighs (map g a) (map g b)
same-map g a b h = record { same = λ f. total-map f g a ∙ h.same (λ x. f (g x)) ∙ sym (total-map f g b) }

pub same-flat_left : {A B : Type 0} (g : A → List B) (a b : List A) → Weighs a b → Weighs (flat_map g a) (flat_map g b)
same-flat_left g a b h = record { same = λ f. total-flat_map f g a ∙ h.same (λ x. total f (g x)) ∙ sym (total-flat_map f g b) }

pub same-flat_right : {A B : Type 0} (g k : A → List B) → ((x : A) → Weighs (g x) (k x)) → (a : List A) → Weighs (flat_map g a) (flat_map k a)
same-flat_right g k h a =
    record { same = λ f. total-flat_map f g a ∙ total-ext (λ x. total f (g x)) (λ x. total f (k x)) (λ x. (h x).same f) a ∙ sym (total-flat_map f k a) }
