-- Lists in parts of elements that are alike, and lists without repeats, both in order of first appearance.
use Rattle.std.specs.Prelude.{Bool, not, List, [], ◌∷◌, filter}

-- an element, and the later ones that are like it
pub record Part (A : Type 0) : Type 0 where
  pub first : A
  pub later : List A

abbrev pub members : {A : Type 0} → Part A → List A
members p = p.first ∷ p.later

abbrev pub parts : {A : Type 0} → (A → A → Bool) → List A → List (Part A)
parts alike [] = []
parts alike (x ∷ xs) = record { first = x; later = filter (alike x) xs } ∷ filter (λ p. not (alike x p.first)) (parts alike xs)

abbrev pub distinct : {A : Type 0} → (A → A → Bool) → List A → List A
distinct same [] = []
distinct same (x ∷ xs) = x ∷ filter (λ y. not (same x y)) (distinct same xs)
