-- Lists of lists: what holds of all, and how long they are.
use Rattle.std.proofs.Common.{◌≡◌, ℕ, ◌+◌, ◌*◌, ◌≤◌, Bool, true, false, cond, List, [], ◌∷◌, ◌++◌, filter, length, All, refl, sym, ◌∙◌, ap, arith}
use Rattle.std.specs.List.{flat_map}
use Rattle.std.proofs.lemmas.Grind.{flat_map-append}
use Rattle.std.proofs.lemmas.List.{length-append}
use Rattle.std.proofs.lemmas.List.Elements.{All-nil, All-head, All-tail, All-append}

pub All-flat_map : {A B : Type 0} (P : B → Type 0) (f : A → List B) (Q : A → Type 0) → ((x : A) → Q x → All P (f x)) → (xs : List A) → All Q xs → All P (flat_map f xs)
All-flat_map P f Q h [] all = All-nil P
All-flat_map P f Q h (x ∷ xs) all = All-append P (f x) (flat_map f xs) (h x (All-head Q x xs all)) (All-flat_map P f Q h xs (All-tail Q x xs all))

pub flat_map-twice : {A B C : Type 0} (f : A → List B) (g : B → List C) (xs : List A) → flat_map (λ x. flat_map g (f x)) xs ≡ flat_map g (flat_map f xs)
flat_map-twice f g [] = refl
flat_map-twice f g (x ∷ xs) = ap (λ ys. flat_map g (f x) ++ ys) (flat_map-twice f g xs) ∙ sym (flat_map-append g (f x) (flat_map f xs))

filter-less : {A : Type 0} (p : A → Bool) (b : Bool) (x : A) (xs : List A) → length (filter p xs) ≤ length xs → length (cond b (x ∷ filter p xs) (filter p xs)) ≤ length xs + 1
filter-less p true x xs h = omega arith
filter-less p false x xs h = omega arith

pub length-filter-le : {A : Type 0} (p : A → Bool) (xs : List A) → length (filter p xs) ≤ length xs
length-filter-le p [] = omega arith
length-filter-le p (x ∷ xs) = let h = filter-less p (p x) x xs (length-filter-le p xs) in omega arith

pub length-flat_map-le : {A B : Type 0} (f : A → List B) (n : ℕ) (xs : List A) → All (λ x. length (f x) ≤ n) xs → length (flat_map f xs) ≤ length xs * n
length-flat_map-le f n [] all = omega arith
length-flat_map-le f n (x ∷ xs) all =
    let here = All-head (λ x. length (f x) ≤ n) x xs all in
    let rest = length-flat_map-le f n xs (All-tail (λ x. length (f x) ≤ n) x xs all) in
    grind (arith, length-append (f x) (flat_map f xs))
