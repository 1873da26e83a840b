-- Elements of lists that are made of lists.
use Rattle.std.proofs.Common.{◌≡◌, ℕ, zero, suc, ◌⊎◌, inl, inr, ⊎_elim, List, [], ◌∷◌, ◌++◌, Option, Some, None, refl, sym, subst, cond, true, false, Bool}
use Rattle.std.specs.List.{slice_get, flat_map}

pub record Among {A : Type 0} (xs : List A) (x : A) : Type 0 where
  pub at : ℕ
  pub got : slice_get xs at ≡ Some x

pub among-left : {A : Type 0} (xs ys : List A) (x : A) → Among xs x → Among (xs ++ ys) x
among-left {A} xs ys x h = record { at = h.at; got = left xs h.at h.got }
  where
    left : (xs : List A) (k : ℕ) → slice_get xs k ≡ Some x → slice_get (xs ++ ys) k ≡ Some x
    left [] k e = absurd cc
    left (z ∷ xs) zero e = e
    left (z ∷ xs) (suc k) e = left xs k e

pub among-right : {A : Type 0} (xs ys : List A) (x : A) → Among ys x → Among (xs ++ ys) x
among-right [] ys x h = h
among-right (z ∷ xs) ys x h = let more = among-right xs ys x h in record { at = suc more.at; got = more.got }

pub among-cases : {A : Type 0} (xs ys : List A) (x : A) (k : ℕ) → slice_get (xs ++ ys) k ≡ Some x → (Among xs x) ⊎ (Among ys x)
among-cases [] ys x k e = inr (record { at = k; got = e })
among-cases (z ∷ xs) ys x zero e = inl (record { at = zero; got = e })
among-cases (z ∷ xs) ys x (suc k) e = ⊎_elim (λ h. inl (record { at = suc h.at; got = h.got })) (λ h. inr h) (among-cases xs ys x k e)

pub among-flat : {A B : Type 0} (f : A → List B) (xs : List A) (x : A) (y : B) → Among xs x → Among (f x) y → Among (flat_map f xs) y
among-flat {A} {B} f xs x y h g = flat xs h.at h.got
  where
    flat : (xs : List A) (k : ℕ) → slice_get xs k ≡ Some x → Among (flat_map f xs) y
    flat [] k e = absurd cc
    flat (z ∷ xs) zero e = let same : z ≡ x = cc in among-left (f z) (flat_map f xs) y (subst (λ w. Among (f w) y) (sym same) g)
    flat (z ∷ xs) (suc k) e = among-right (f z) (flat_map f xs) y (flat xs k e)

pub record AmongFlat {A B : Type 0} (f : A → List B) (xs : List A) (y : B) : Type 0 where
  pub item : A
  pub here : Among xs item
  pub inside : Among (f item) y

pub flat-among : {A B : Type 0} (f : A → List B) (xs : List A) (y : B) (k : ℕ) → slice_get (flat_map f xs) k ≡ Some y → AmongFlat f xs y
flat-among f [] y k e = absurd cc
flat-among f (x ∷ xs) y k e = ⊎_elim
    (λ h. record { item = x; here = record { at = zero; got = refl }; inside = h })
    (λ h. let more = flat-among f xs y h.at h.got in record { item = more.item; here = record { at = suc more.here.at; got = more.here.got }; inside = more.inside })
    (among-cases (f x) (flat_map f xs) y k e)

abbrev pub Every : {A : Type 0} → (A → Type 0) → List A → Type 0
Every P [] = Unit {0}
Every P (x ∷ xs) = P x × Every P xs

pub every-get : {A : Type 0} (P : A → Type 0) (xs : List A) (x : A) (k : ℕ) → Every P xs → slice_get xs k ≡ Some x → P x
every-get P [] x k h e = absurd cc
every-get P (z ∷ xs) x zero h e = let same : z ≡ x = cc in subst P same h.0
every-get P (z ∷ xs) x (suc k) h e = every-get P xs x k h.1 e

pub every-if : {A : Type 0} (P : A → Type 0) (b : Bool) (xs ys : List A) → Every P xs → Every P ys → Every P (cond b xs ys)
every-if P true xs ys p q = p
every-if P false xs ys p q = q

pub every-append : {A : Type 0} (P : A → Type 0) (xs ys : List A) → Every P xs → Every P ys → Every P (xs ++ ys)
every-append P [] ys p q = q
every-append P (x ∷ xs) ys p q = (p.0, every-append P xs ys p.1 q)

pub every-flat : {A B : Type 0} (P : B → Type 0) (f : A → List B) (xs : List A) → ((x : A) → Among xs x → Every P (f x)) → Every P (flat_map f xs)
every-flat P f [] h = tt
every-flat P f (x ∷ xs) h =
    every-append P (f x) (flat_map f xs) (h x (record { at = zero; got = refl }))
    (every-flat P f xs (λ y m. h y (record { at = suc m.at; got = m.got })))
