-- Filters of lists, and tests of all elements of a list in parts.
use Rattle.std.proofs.Common.{◌≡◌, Bool, true, false, cond, not, ◌&&◌, List, [], ◌∷◌, ◌++◌, map, filter, All, refl, ◌∙◌, ap}
use Rattle.std.specs.List.{flat_map, list_all}
use Rattle.std.proofs.lemmas.List.Elements.{All-nil, All-cons, All-head, All-tail, filter-append}

-- ---- filters

pub filter-true : {A : Type 0} (xs : List A) → filter (λ x. true) xs ≡ xs
filter-true [] = refl
filter-true (x ∷ xs) = ap (λ ys. x ∷ ys) (filter-true xs)

-- a filter over a filter is one by both
pub filter-both : {A : Type 0} (p q : A → Bool) (xs : List A) → filter q (filter p xs) ≡ filter (λ x. p x && q x) xs
filter-both p q [] = refl
filter-both {A} p q (x ∷ xs) = at_first (p x) (filter-both p q xs)
  where
    at_first : (b : Bool) → filter q (filter p xs) ≡ filter (λ x. p x && q x) xs
        → filter q (cond b (x ∷ filter p xs) (filter p xs)) ≡ cond (b && q x) (x ∷ filter (λ x. p x && q x) xs) (filter (λ x. p x && q x) xs)
    at_first true h = ap (λ ys. cond (q x) (x ∷ ys) ys) h
    at_first false h = h

-- tests that agree at each of the elements keep the same ones
pub filter-same : {A : Type 0} (P : A → Type 0) (p q : A → Bool) → ((x : A) → P x → p x ≡ q x) → (xs : List A) → All P xs → filter p xs ≡ filter q xs
filter-same P p q h [] all = refl
filter-same P p q h (x ∷ xs) all =
    ap (λ b. cond b (x ∷ filter p xs) (filter p xs)) (h x (All-head P x xs all))
    ∙ ap (λ ys. cond (q x) (x ∷ ys) ys) (filter-same P p q h xs (All-tail P x xs all))

-- a test that is, of each element, another one where `b` is true and fails where it isn't
pub filter-decided : {A : Type 0} (p q : A → Bool) (b : Bool) (xs : List A) → All (λ x. p x ≡ (b && q x)) xs → filter p xs ≡ cond b (filter q xs) []
filter-decided {A} p q b xs all = filter-same (λ x. p x ≡ (b && q x)) p (λ x. b && q x) (λ x h. h) xs all ∙ by b xs
  where
    by : (b : Bool) (xs : List A) → filter (λ x. b && q x) xs ≡ cond b (filter q xs) []
    by true xs = refl
    by false [] = refl
    by false (x ∷ xs) = by false xs

-- ---- lists made of lists

pub filter-flat_map : {A B : Type 0} (p : B → Bool) (f : A → List B) (xs : List A) → filter p (flat_map f xs) ≡ flat_map (λ x. filter p (f x)) xs
filter-flat_map p f [] = refl
filter-flat_map p f (x ∷ xs) = filter-append p (f x) (flat_map f xs) ∙ ap (λ ys. filter p (f x) ++ ys) (filter-flat_map p f xs)

-- where nothing is made of an element that doesn't pass, those that pass are enough
pub flat_map-filtered : {A B : Type 0} (P : A → Type 0) (p : A → Bool) (f g : A → List B) → ((x : A) → P x → f x ≡ cond (p x) (g x) [])
    → (xs : List A) → All P xs → flat_map f xs ≡ flat_map g (filter p xs)
flat_map-filtered P p f g h [] all = refl
flat_map-filtered {A} {B} P p f g h (x ∷ xs) all =
    ap (λ ys. ys ++ flat_map f xs) (h x (All-head P x xs all)) ∙ by (p x) (flat_map-filtered P p f g h xs (All-tail P x xs all))
  where
    by : (b : Bool) → flat_map f xs ≡ flat_map g (filter p xs) → cond b (g x) [] ++ flat_map f xs ≡ flat_map g (cond b (x ∷ filter p xs) (filter p xs))
    by true e = ap (λ ys. g x ++ ys) e
    by false e = e

-- a test of what is made of an element, in a test of the element and one of what is made of it
pub filter-of_map : {A B : Type 0} (p h : B → Bool) (q : A → Bool) (f : A → B) → ((x : A) → p (f x) ≡ (q x && h (f x)))
    → (xs : List A) → filter p (map f xs) ≡ filter h (map f (filter q xs))
filter-of_map p h q f e [] = refl
filter-of_map {A} {B} p h q f e (x ∷ xs) =
    ap (λ b. cond b (f x ∷ filter p (map f xs)) (filter p (map f xs))) (e x) ∙ by (q x) (filter-of_map p h q f e xs)
  where
    by : (b : Bool) → filter p (map f xs) ≡ filter h (map f (filter q xs))
        → cond (b && h (f x)) (f x ∷ filter p (map f xs)) (filter p (map f xs)) ≡ filter h (map f (cond b (x ∷ filter q xs) (filter q xs)))
    by true k = ap (λ ys. cond (h (f x)) (f x ∷ ys) ys) k
    by false k = k

filter-fails : {A B : Type 0} (p : B → Bool) (f : A → B) → ((x : A) → p (f x) ≡ false) → (xs : List A) → filter p (map f xs) ≡ []
filter-fails p f e [] = refl
filter-fails p f e (x ∷ xs) = ap (λ b. cond b (f x ∷ filter p (map f xs)) (filter p (map f xs))) (e x) ∙ filter-fails p f e xs

-- the same, where nothing passes unless `b` is true
pub filter-of_map_decided : {A B : Type 0} (p h : B → Bool) (q : A → Bool) (f : A → B) (b : Bool) → ((x : A) → p (f x) ≡ (b && (q x && h (f x))))
    → (xs : List A) → filter p (map f xs) ≡ cond b (filter h (map f (filter q xs))) []
filter-of_map_decided p h q f true e xs = filter-of_map p h q f e xs
filter-of_map_decided p h q f false e xs = filter-fails p f e xs

-- ---- what holds of each element of a list that is made

pub All-each : {A : Type 0} (P : A → Type 0) → ((x : A) → P x) → (xs : List A) → All P xs
All-each P h [] = All-nil P
All-each P h (x ∷ xs) = All-cons P x xs (h x) (All-each P h xs)

-- ---- tests of all elements, in parts

and-first : (a b c : Bool) → (a && (b && c)) ≡ ((a && b) && c)
and-first true b c = refl
and-first false b c = refl

and-second : (a b c : Bool) → (a && (b && c)) ≡ (b && (a && c))
and-second true true c = refl
and-second true false c = refl
and-second false true c = refl
and-second false false c = refl

and-third : (a b c d : Bool) → (a && (b && (c && d))) ≡ (b && ((a && c) && d))
and-third a b c d = and-second a b (c && d) ∙ ap (λ e. b && e) (and-first a c d)

pub and-last : (a b c d : Bool) → (a && (b && (c && d))) ≡ (b && (c && (a && d)))
and-last a b c d = and-second a b (c && d) ∙ ap (λ e. b && e) (and-second a c d)

parted-cons : {A : Type 0} (h : A → Bool) (x : A) (passed others : List A) (b : Bool)
    → (h x && (list_all h passed && list_all h others)) ≡ (list_all h (cond b (x ∷ passed) passed) && list_all h (cond (not b) (x ∷ others) others))
parted-cons h x passed others true = and-first (h x) (list_all h passed) (list_all h others)
parted-cons h x passed others false = and-second (h x) (list_all h passed) (list_all h others)

-- of those that pass a test, and of the others
pub list_all-parted : {A : Type 0} (h p : A → Bool) (xs : List A) → list_all h xs ≡ (list_all h (filter p xs) && list_all h (filter (λ x. not (p x)) xs))
list_all-parted h p [] = refl
list_all-parted h p (x ∷ xs) = ap (λ b. h x && b) (list_all-parted h p xs) ∙ parted-cons h x (filter p xs) (filter (λ x. not (p x)) xs) (p x)

three-cons : {A : Type 0} (h : A → Bool) (x : A) (first second neither : List A) (b c : Bool)
    → (h x && (list_all h first && (list_all h second && list_all h neither)))
    ≡ (list_all h (cond b (x ∷ first) first) && (list_all h (cond (not b && c) (x ∷ second) second) && list_all h (cond (not b && not (not b && c)) (x ∷ neither) neither)))
three-cons h x first second neither true c = and-first (h x) (list_all h first) (list_all h second && list_all h neither)
three-cons h x first second neither false true = and-third (h x) (list_all h first) (list_all h second) (list_all h neither)
three-cons h x first second neither false false = and-last (h x) (list_all h first) (list_all h second) (list_all h neither)

-- of those that pass the first test, of those that pass the second and not the first, and of those that pass neither
pub list_all-in_three : {A : Type 0} (h p q : A → Bool) (xs : List A)
    → list_all h xs ≡ (list_all h (filter p xs) && (list_all h (filter (λ x. not (p x) && q x) xs) && list_all h (filter (λ x. not (p x) && not (not (p x) && q x)) xs)))
list_all-in_three h p q [] = refl
list_all-in_three h p q (x ∷ xs) =
    ap (λ b. h x && b) (list_all-in_three h p q xs)
    ∙ three-cons h x (filter p xs) (filter (λ x. not (p x) && q x) xs) (filter (λ x. not (p x) && not (not (p x) && q x)) xs) (p x) (q x)
