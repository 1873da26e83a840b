-- Lists in parts: those whose first element passes are the parts of the elements that pass.
use Rattle.std.proofs.Common.{◌≡◌, Bool, true, false, cond, not, List, [], ◌∷◌, filter, refl, sym, ◌∙◌, ap, ap₂}
use Rattle.cal_aggregate.specs.Parts.{Part, parts}
use Rattle.cal_rel.proofs.Reorders.{filter-filter}

-- what passes the one test passes the other
filter-weaker : {A : Type 0} (p q : A → Bool) → ((x : A) → p x ≡ true → q x ≡ true) → (xs : List A) → filter p (filter q xs) ≡ filter p xs
filter-weaker p q h [] = refl
filter-weaker {A} p q h (x ∷ xs) = by (p x) refl (q x) refl (filter-weaker p q h xs)
  where
    by : (b : Bool) → p x ≡ b → (c : Bool) → q x ≡ c → filter p (filter q xs) ≡ filter p xs
        → filter p (cond c (x ∷ filter q xs) (filter q xs)) ≡ cond b (x ∷ filter p xs) (filter p xs)
    by b e true f k = ap (λ d. cond d (x ∷ filter p (filter q xs)) (filter p (filter q xs))) e ∙ ap (λ ys. cond b (x ∷ ys) ys) k
    by true e false f k = absurd (let g = h x e in cc)
    by false e false f k = k

part_of : {A : Type 0} → A → List A → Part A
part_of x xs = record { first = x; later = xs }

-- elements that are alike pass together
pub parts-filter : {A : Type 0} (alike : A → A → Bool) (q : A → Bool) → ((x y : A) → alike x y ≡ true → q x ≡ q y) → (xs : List A)
    → parts alike (filter q xs) ≡ filter (λ part. q part.first) (parts alike xs)
unfolding part_of
parts-filter alike q agree [] = refl
parts-filter {A} alike q agree (x ∷ xs) = by (q x) refl (parts-filter alike q agree xs)
  where
    by : (b : Bool) → q x ≡ b → parts alike (filter q xs) ≡ filter (λ (p : Part A). q p.first) (parts alike xs)
        → parts alike (cond b (x ∷ filter q xs) (filter q xs))
        ≡ cond b (part_of x (filter (alike x) xs) ∷ filter (λ (p : Part A). q p.first) (filter (λ (p : Part A). not (alike x p.first)) (parts alike xs)))
        (filter (λ (p : Part A). q p.first) (filter (λ (p : Part A). not (alike x p.first)) (parts alike xs)))
    by true e h =
        ap₂ (λ ys ps. part_of x ys ∷ ps) (filter-weaker (alike x) q (λ y same. sym (agree x y same) ∙ e) xs)
        (ap (filter (λ (p : Part A). not (alike x p.first))) h ∙ filter-filter (λ (p : Part A). not (alike x p.first)) (λ (p : Part A). q p.first) (parts alike xs))
    by false e h = h ∙ sym (filter-weaker (λ (p : Part A). q p.first) (λ (p : Part A). not (alike x p.first)) (λ p passes. other p (alike x p.first) refl passes) (parts alike xs))
      where
        other : (p : Part A) (c : Bool) → alike x p.first ≡ c → q p.first ≡ true → not c ≡ true
        other p true same passes = absurd (let k = agree x p.first same in cc)
        other p false same passes = refl
