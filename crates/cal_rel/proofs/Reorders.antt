-- Lists in another order, by steps; groups of rows in another order are in another order.
use Rattle.std.proofs.Common.{◌≡◌, ℕ, ◌+◌, ◌<◌, Bool, true, false, cond, not, List, [], ◌∷◌, map, filter, refl, sym, ◌∙◌, ap, subst, arith}
use mathlib.Core.Path.{ap₂}
use Rattle.std.specs.Bool.{Decides}
use Rattle.cal_aggregate.specs.Parts.{Part, members, parts}
use Rattle.cal_rel.proofs.Totals.{total, Weighs}

pub data Reordered {A : Type 0} : List A → List A → Type 0 where
  as_is : (xs : List A) → Reordered xs xs
  skip : (x : A) (xs ys : List A) → Reordered xs ys → Reordered (x ∷ xs) (x ∷ ys)
  swap : (x y : A) (xs : List A) → Reordered (x ∷ y ∷ xs) (y ∷ x ∷ xs)
  chain : (xs ys zs : List A) → Reordered xs ys → Reordered ys zs → Reordered xs zs

pub one-order : {A : Type 0} (xs ys : List A) → xs ≡ ys → Reordered xs ys
one-order xs ys e = subst (Reordered xs) e (as_is xs)

pub reordered-map : {A B : Type 0} (f : A → B) (xs ys : List A) → Reordered xs ys → Reordered (map f xs) (map f ys)
reordered-map f _ _ (as_is xs) = as_is (map f xs)
reordered-map f _ _ (skip x xs ys r) = skip (f x) (map f xs) (map f ys) (reordered-map f xs ys r)
reordered-map f _ _ (swap x y xs) = swap (f x) (f y) (map f xs)
reordered-map f _ _ (chain xs ys zs r s) = chain (map f xs) (map f ys) (map f zs) (reordered-map f xs ys r) (reordered-map f ys zs s)

skip-test : {A : Type 0} (b : Bool) (x : A) (xs ys : List A) → Reordered xs ys → Reordered (cond b (x ∷ xs) xs) (cond b (x ∷ ys) ys)
skip-test true x xs ys r = skip x xs ys r
skip-test false x xs ys r = r

swap-test : {A : Type 0} (b c : Bool) (x y : A) (xs : List A) → Reordered (cond b (x ∷ cond c (y ∷ xs) xs) (cond c (y ∷ xs) xs)) (cond c (y ∷ cond b (x ∷ xs) xs) (cond b (x ∷ xs) xs))
swap-test true true x y xs = swap x y xs
swap-test true false x y xs = as_is (x ∷ xs)
swap-test false true x y xs = as_is (y ∷ xs)
swap-test false false x y xs = as_is xs

pub reordered-filter : {A : Type 0} (p : A → Bool) (xs ys : List A) → Reordered xs ys → Reordered (filter p xs) (filter p ys)
reordered-filter p _ _ (as_is xs) = as_is (filter p xs)
reordered-filter p _ _ (skip x xs ys r) = skip-test (p x) x (filter p xs) (filter p ys) (reordered-filter p xs ys r)
reordered-filter p _ _ (swap x y xs) = swap-test (p x) (p y) x y (filter p xs)
reordered-filter p _ _ (chain xs ys zs r s) = chain (filter p xs) (filter p ys) (filter p zs) (reordered-filter p xs ys r) (reordered-filter p ys zs s)

-- ---- from weights and to them

swapped : (m n k : ℕ) → m + (n + k) ≡ n + (m + k)
swapped m n k = omega arith

pub reordered-total : {A : Type 0} (f : A → ℕ) (xs ys : List A) → Reordered xs ys → total f xs ≡ total f ys
reordered-total f _ _ (as_is xs) = refl
reordered-total f _ _ (skip x xs ys r) = ap (λ n. f x + n) (reordered-total f xs ys r)
reordered-total f _ _ (swap x y xs) = swapped (f x) (f y) (total f xs)
reordered-total f _ _ (chain xs ys zs r s) = reordered-total f xs ys r ∙ reordered-total f ys zs s

pub Weighs-from_Reordered : {A : Type 0} (xs ys : List A) → Reordered xs ys → Weighs xs ys
Weighs-from_Reordered xs ys r = record { same = λ f. reordered-total f xs ys r }

one-true : (b : Bool) (n : ℕ) → b ≡ true → 0 < cond b 1 0 + n
one-true true n e = omega arith
one-true false n e = absurd (cc)

module _ {A : Type 0} (E : A → A → Bool) (d : (a b : A) → Decides (E a b) (a ≡ b)) where
  abbrev tally : A → List A → ℕ
  tally x ys = total (λ y. cond (E x y) 1 0) ys

  -- the rest of a list without one of its elements
  pub record Rest (x : A) (ys : List A) : Type 0 where
    pub rest : List A
    pub order : Reordered (x ∷ rest) ys

  rest-step : (x y : A) (ys : List A) (b : Bool) → E x y ≡ b → (0 < tally x ys → Rest x ys) → 0 < cond b 1 0 + tally x ys → Rest x (y ∷ ys)
  rest-step x y ys true e more h = record { rest = ys; order = one-order (x ∷ ys) (y ∷ ys) (ap (λ z. z ∷ ys) ((d x y).0 e)) }
  rest-step x y ys false e more h =
      let r = more (omega arith) in
      record { rest = y ∷ r.rest; order = chain (x ∷ y ∷ r.rest) (y ∷ x ∷ r.rest) (y ∷ ys) (swap x y r.rest) (skip y (x ∷ r.rest) ys r.order) }

  rest-of : (x : A) (ys : List A) → 0 < tally x ys → Rest x ys
  rest-of x [] h = absurd (omega arith)
  rest-of x (y ∷ ys) h = rest-step x y ys (E x y) refl (rest-of x ys) h

  counts-itself : (x : A) (xs : List A) → 0 < tally x (x ∷ xs)
  counts-itself x xs = one-true (E x x) (tally x xs) ((d x x).1 refl)

  pub Reordered-from_Weighs : (xs ys : List A) → Weighs xs ys → Reordered xs ys
  Reordered-from_Weighs [] [] h = as_is []
  Reordered-from_Weighs [] (y ∷ ys) h = absurd (let e = h.same (λ z. 1) in omega arith)
  Reordered-from_Weighs (x ∷ xs) ys h =
      let there : 0 < tally x ys = (let e = h.same (λ y. cond (E x y) 1 0) in omega (arith, counts-itself x xs)) in
      let r = rest-of x ys there in
      let left : Weighs xs r.rest = record { same = λ f. omega (arith, h.same f, reordered-total f (x ∷ r.rest) ys r.order) } in
      chain (x ∷ xs) (x ∷ r.rest) ys (skip x xs r.rest (Reordered-from_Weighs xs r.rest left)) r.order

-- ---- groups by a key

-- the same of lists in another order
pub record Settles {A V : Type 0} (calls : List A → V) : Type 0 where
  pub same : (xs ys : List A) → Reordered xs ys → calls xs ≡ calls ys

pub filter-filter : {A : Type 0} (p q : A → Bool) (xs : List A) → filter p (filter q xs) ≡ filter q (filter p xs)
filter-filter p q [] = refl
filter-filter {A} p q (x ∷ xs) = at_tests (p x) (q x) refl refl (filter-filter p q xs)
  where
    at_tests : (b c : Bool) → p x ≡ b → q x ≡ c → filter p (filter q xs) ≡ filter q (filter p xs) → filter p (cond c (x ∷ filter q xs) (filter q xs)) ≡ filter q (cond b (x ∷ filter p xs) (filter p xs))
    at_tests true true e f h = ap (λ b. cond b (x ∷ filter p (filter q xs)) (filter p (filter q xs))) e ∙ ap (λ ys. x ∷ ys) h ∙ sym (ap (λ b. cond b (x ∷ filter q (filter p xs)) (filter q (filter p xs))) f)
    at_tests true false e f h = h ∙ sym (ap (λ b. cond b (x ∷ filter q (filter p xs)) (filter q (filter p xs))) f)
    at_tests false true e f h = ap (λ b. cond b (x ∷ filter p (filter q xs)) (filter p (filter q xs))) e ∙ h
    at_tests false false e f h = h

pub filter-map : {A B : Type 0} (p : B → Bool) (f : A → B) (xs : List A) → filter p (map f xs) ≡ map f (filter (λ x. p (f x)) xs)
filter-map p f [] = refl
filter-map {A} p f (x ∷ xs) = at_test (p (f x)) (filter-map p f xs)
  where
    at_test : (b : Bool) → filter p (map f xs) ≡ map f (filter (λ x. p (f x)) xs)
        → cond b (f x ∷ filter p (map f xs)) (filter p (map f xs)) ≡ map f (cond b (x ∷ filter (λ x. p (f x)) xs) (filter (λ x. p (f x)) xs))
    at_test true h = ap (λ ys. f x ∷ ys) h
    at_test false h = h

pub map-map : {A B C : Type 0} (g : B → C) (f : A → B) (xs : List A) → map g (map f xs) ≡ map (λ x. g (f x)) xs
map-map g f [] = refl
map-map g f (x ∷ xs) = ap (λ ys. g (f x) ∷ ys) (map-map g f xs)

module _ {A K V : Type 0} (same : K → K → Bool) (decides : (a b : K) → Decides (same a b) (a ≡ b)) (key : A → K) (calls : List A → V) (settles : Settles calls) where
  same-comm : (a b : K) → same a b ≡ same b a
  same-comm a b = at_tests (same a b) (same b a) refl refl
    where
      at_tests : (s t : Bool) → same a b ≡ s → same b a ≡ t → s ≡ t
      at_tests true true e f = refl
      at_tests true false e f = absurd (let yes : same b a ≡ true = (decides b a).1 (sym ((decides a b).0 e)) in cc)
      at_tests false true e f = absurd (let yes : same a b ≡ true = (decides a b).1 (sym ((decides b a).0 f)) in cc)
      at_tests false false e f = refl

  abbrev alike : A → A → Bool
  alike x y = same (key x) (key y)

  abbrev pair_of : Part A → K × V
  pair_of p = (key p.first, calls (members p))

  abbrev other : K → K × V → Bool
  other k r = not (same k r.0)

  abbrev keyed : List A → List (K × V)
  keyed xs = map pair_of (parts alike xs)

  keyed-cons : (x : A) (xs : List A) → keyed (x ∷ xs) ≡ (key x, calls (x ∷ filter (alike x) xs)) ∷ filter (other (key x)) (keyed xs)
  keyed-cons x xs = ap (λ ys. (key x, calls (x ∷ filter (alike x) xs)) ∷ ys) (sym (filter-map (other (key x)) pair_of (parts alike xs)))

  abbrev two : A → A → List A → Bool → List (K × V)
  two x y xs b = (key x, calls (x ∷ cond b (y ∷ filter (alike x) xs) (filter (alike x) xs))) ∷ cond (not b) ((key y, calls (y ∷ filter (alike y) xs)) ∷ filter (other (key x)) (filter (other (key y)) (keyed xs))) (filter (other (key x)) (filter (other (key y)) (keyed xs)))

  keyed-two : (x y : A) (xs : List A) → keyed (x ∷ y ∷ xs) ≡ two x y xs (same (key x) (key y))
  keyed-two x y xs = keyed-cons x (y ∷ xs) ∙ ap (λ ys. (key x, calls (x ∷ filter (alike x) (y ∷ xs))) ∷ filter (other (key x)) ys) (keyed-cons y xs)

  two-swap : (x y : A) (xs : List A) (b : Bool) → same (key x) (key y) ≡ b → Reordered (two x y xs b) (two y x xs b)
  two-swap x y xs true e =
      one-order (two x y xs true) (two y x xs true)
      (ap₂ (λ r rs. r ∷ rs)
      (ap (λ v. (key x, v)) (settles.same (x ∷ y ∷ filter (alike x) xs) (y ∷ x ∷ filter (alike x) xs) (swap x y (filter (alike x) xs)))
      ∙ ap (λ k. (k, calls (y ∷ x ∷ filter (λ z. same k (key z)) xs))) ((decides (key x) (key y)).0 e))
      (filter-filter (other (key x)) (other (key y)) (keyed xs)))
  two-swap x y xs false e =
      chain (two x y xs false) ((key y, calls (y ∷ filter (alike y) xs)) ∷ (key x, calls (x ∷ filter (alike x) xs)) ∷ filter (other (key x)) (filter (other (key y)) (keyed xs))) (two y x xs false)
      (swap (key x, calls (x ∷ filter (alike x) xs)) (key y, calls (y ∷ filter (alike y) xs)) (filter (other (key x)) (filter (other (key y)) (keyed xs))))
      (one-order _ (two y x xs false) (ap (λ rs. (key y, calls (y ∷ filter (alike y) xs)) ∷ (key x, calls (x ∷ filter (alike x) xs)) ∷ rs) (filter-filter (other (key x)) (other (key y)) (keyed xs))))

  pub keyed-reordered : (xs ys : List A) → Reordered xs ys → Reordered (keyed xs) (keyed ys)
  keyed-reordered _ _ (as_is xs) = as_is (keyed xs)
  keyed-reordered _ _ (skip x xs ys r) =
      chain (keyed (x ∷ xs)) ((key x, calls (x ∷ filter (alike x) xs)) ∷ filter (other (key x)) (keyed xs)) (keyed (x ∷ ys))
      (one-order (keyed (x ∷ xs)) _ (keyed-cons x xs))
      (chain ((key x, calls (x ∷ filter (alike x) xs)) ∷ filter (other (key x)) (keyed xs)) ((key x, calls (x ∷ filter (alike x) xs)) ∷ filter (other (key x)) (keyed ys)) (keyed (x ∷ ys))
      (skip (key x, calls (x ∷ filter (alike x) xs)) (filter (other (key x)) (keyed xs)) (filter (other (key x)) (keyed ys)) (reordered-filter (other (key x)) (keyed xs) (keyed ys) (keyed-reordered xs ys r)))
      (one-order _ (keyed (x ∷ ys))
      (ap (λ v. (key x, v) ∷ filter (other (key x)) (keyed ys)) (settles.same (x ∷ filter (alike x) xs) (x ∷ filter (alike x) ys) (skip x (filter (alike x) xs) (filter (alike x) ys) (reordered-filter (alike x) xs ys r)))
      ∙ sym (keyed-cons x ys))))
  keyed-reordered _ _ (swap x y xs) =
      chain (keyed (x ∷ y ∷ xs)) (two x y xs (same (key x) (key y))) (keyed (y ∷ x ∷ xs))
      (one-order (keyed (x ∷ y ∷ xs)) _ (keyed-two x y xs))
      (chain (two x y xs (same (key x) (key y))) (two y x xs (same (key x) (key y))) (keyed (y ∷ x ∷ xs))
      (two-swap x y xs (same (key x) (key y)) refl)
      (one-order _ (keyed (y ∷ x ∷ xs)) (ap (two y x xs) (same-comm (key x) (key y)) ∙ sym (keyed-two y x xs))))
  keyed-reordered _ _ (chain xs ys zs r s) = chain (keyed xs) (keyed ys) (keyed zs) (keyed-reordered xs ys r) (keyed-reordered ys zs s)
