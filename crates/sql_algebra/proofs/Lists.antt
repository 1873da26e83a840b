-- How map, filter, flat_map and parts of lists go together.
use Rattle.std.proofs.Common.{◌≡◌, Bool, true, cond, not, List, [], ◌∷◌, ◌++◌, map, filter, All, refl, sym, ◌∙◌, ap}
use mathlib.Core.Path.{ap₂}
use Rattle.std.specs.List.{flat_map}
use Rattle.std.proofs.lemmas.List.{map-append}
use Rattle.std.proofs.lemmas.List.Elements.{All-nil, All-cons, All-head, All-tail, All-filter, All-weaker}
use Rattle.cal_aggregate.specs.Parts.{Part, members, parts, distinct}
use Rattle.cal_rel.proofs.Reorders.{filter-map}

-- ---- the same of each element

pub map-ext : {A B : Type 0} (f g : A → B) (xs : List A) → All (λ x. f x ≡ g x) xs → map f xs ≡ map g xs
map-ext f g [] h = refl
map-ext f g (x ∷ xs) h = ap₂ (λ y ys. y ∷ ys) (All-head (λ x. f x ≡ g x) x xs h) (map-ext f g xs (All-tail (λ x. f x ≡ g x) x xs h))

pub filter-ext : {A : Type 0} (p q : A → Bool) (xs : List A) → All (λ x. p x ≡ q x) xs → filter p xs ≡ filter q xs
filter-ext p q [] h = refl
filter-ext p q (x ∷ xs) h = ap₂ (λ b ys. cond b (x ∷ ys) ys) (All-head (λ x. p x ≡ q x) x xs h) (filter-ext p q xs (All-tail (λ x. p x ≡ q x) x xs h))

pub all-kept : {A : Type 0} (xs : List A) → filter (λ x. true) xs ≡ xs
all-kept [] = refl
all-kept (x ∷ xs) = ap (λ ys. x ∷ ys) (all-kept xs)

-- a filter on one side is a filter on the other
pub map-filter : {A B : Type 0} (f : A → B) (p : A → Bool) (q : B → Bool) (xs : List A) → All (λ x. p x ≡ q (f x)) xs → map f (filter p xs) ≡ filter q (map f xs)
map-filter f p q xs h = ap (map f) (filter-ext p (λ x. q (f x)) xs h) ∙ sym (filter-map q f xs)

pub map-flat_map : {A B C D : Type 0} (f : B → D) (g : A → List B) (u : A → C) (k : C → List D) (xs : List A) → All (λ x. map f (g x) ≡ k (u x)) xs → map f (flat_map g xs) ≡ flat_map k (map u xs)
map-flat_map f g u k [] h = refl
map-flat_map f g u k (x ∷ xs) h =
    map-append f (g x) (flat_map g xs)
    ∙ ap₂ (λ us vs. us ++ vs) (All-head (λ x. map f (g x) ≡ k (u x)) x xs h) (map-flat_map f g u k xs (All-tail (λ x. map f (g x) ≡ k (u x)) x xs h))

pub flat_map-one : {A : Type 0} (xs : List A) → flat_map (λ x. x ∷ []) xs ≡ xs
flat_map-one [] = refl
flat_map-one (x ∷ xs) = ap (λ ys. x ∷ ys) (flat_map-one xs)

-- ---- parts

abbrev pub mapped : {A B : Type 0} → (A → B) → Part A → Part B
mapped f p = record { first = f p.first; later = map f p.later }

pub parts-map : {A B : Type 0} (alike : B → B → Bool) (f : A → B) (xs : List A) → parts alike (map f xs) ≡ map (mapped f) (parts (λ x y. alike (f x) (f y)) xs)
parts-map alike f [] = refl
parts-map alike f (x ∷ xs) =
    ap₂ (λ later others. record { first = f x; later = later } ∷ others)
    (filter-map (alike (f x)) f xs)
    (ap (filter (λ p. not (alike (f x) p.first))) (parts-map alike f xs) ∙ filter-map (λ p. not (alike (f x) p.first)) (mapped f) (parts (λ x y. alike (f x) (f y)) xs))

pub parts-members : {A : Type 0} (P : A → Type 0) (alike : A → A → Bool) (xs : List A) → All P xs → All (λ (p : Part A). All P (members p)) (parts alike xs)
parts-members P alike [] h = All-nil (λ p. All P (members p))
parts-members P alike (x ∷ xs) h =
    All-cons (λ p. All P (members p)) (record { first = x; later = filter (alike x) xs }) (filter (λ p. not (alike x p.first)) (parts alike xs))
    (All-cons P x (filter (alike x) xs) (All-head P x xs h) (All-filter (alike x) P xs (All-tail P x xs h)))
    (All-filter (λ p. not (alike x p.first)) (λ p. All P (members p)) (parts alike xs) (parts-members P alike xs (All-tail P x xs h)))

-- a test that agrees on the elements
pub parts-ext : {A : Type 0} (P : A → Type 0) (s t : A → A → Bool) → ((x y : A) → P x → P y → s x y ≡ t x y) → (xs : List A) → All P xs → parts s xs ≡ parts t xs
parts-ext {A} P s t e [] h = refl
parts-ext {A} P s t e (x ∷ xs) h =
    ap₂ (λ later others. record { first = x; later = later } ∷ others)
    (filter-ext (s x) (t x) xs (All-weaker P (λ y. s x y ≡ t x y) (λ y k. e x y (All-head P x xs h) k) xs (All-tail P x xs h)))
    (ap (filter (λ p. not (s x p.first))) (parts-ext P s t e xs (All-tail P x xs h))
    ∙ filter-ext (λ p. not (s x p.first)) (λ p. not (t x p.first)) (parts t xs)
    (All-weaker (λ (p : Part A). All P (members p)) (λ p. not (s x p.first) ≡ not (t x p.first)) (λ p k. ap not (e x p.first (All-head P x xs h) (All-head P p.first p.later k)))
    (parts t xs) (parts-members P t xs (All-tail P x xs h))))

-- the firsts of the parts are what is left without repeats
pub firsts-distinct : {A : Type 0} (same : A → A → Bool) (xs : List A) → map (λ (p : Part A). p.first) (parts same xs) ≡ distinct same xs
firsts-distinct same [] = refl
firsts-distinct same (x ∷ xs) = ap (λ ys. x ∷ ys) (sym (filter-map (λ y. not (same x y)) (λ p. p.first) (parts same xs)) ∙ ap (filter (λ y. not (same x y))) (firsts-distinct same xs))
