-- Lists in which each element stands in a relation to all later ones.
use Rattle.std.proofs.Common.{Bool, true, false, cond, List, [], ◌∷◌, ◌++◌, map, filter}
use Rattle.std.specs.List.{AllByRecursion, flat_map}

-- ---- what holds of each element

pub each-weaker : {A : Type 0} (P Q : A → Type 0) → ((x : A) → P x → Q x) → (xs : List A) → AllByRecursion P xs → AllByRecursion Q xs
each-weaker P Q f [] h = tt
each-weaker P Q f (x ∷ xs) h = (f x h.0, each-weaker P Q f xs h.1)

pub each-filter : {A : Type 0} (P : A → Type 0) (test : A → Bool) (xs : List A) → AllByRecursion P xs → AllByRecursion P (filter test xs)
each-filter P test [] h = tt
each-filter P test (x ∷ xs) h = by (test x) (each-filter P test xs h.1)
  where
    by : (b : Bool) → AllByRecursion P (filter test xs) → AllByRecursion P (cond b (x ∷ filter test xs) (filter test xs))
    by true more = (h.0, more)
    by false more = more

pub each-map : {A B : Type 0} (P : A → Type 0) (Q : B → Type 0) (f : A → B) → ((x : A) → P x → Q (f x)) → (xs : List A) → AllByRecursion P xs → AllByRecursion Q (map f xs)
each-map P Q f keeps [] h = tt
each-map P Q f keeps (x ∷ xs) h = (keeps x h.0, each-map P Q f keeps xs h.1)

-- whatever the list
pub each-made : {A B : Type 0} (Q : B → Type 0) (f : A → B) → ((x : A) → Q (f x)) → (xs : List A) → AllByRecursion Q (map f xs)
each-made Q f makes [] = tt
each-made Q f makes (x ∷ xs) = (makes x, each-made Q f makes xs)

pub each-append : {A : Type 0} (P : A → Type 0) (xs ys : List A) → AllByRecursion P xs → AllByRecursion P ys → AllByRecursion P (xs ++ ys)
each-append P [] ys h more = more
each-append P (x ∷ xs) ys h more = (h.0, each-append P xs ys h.1 more)

pub each-flat : {A B : Type 0} (P : A → Type 0) (Q : B → Type 0) (f : A → List B) → ((x : A) → P x → AllByRecursion Q (f x)) → (xs : List A) → AllByRecursion P xs → AllByRecursion Q (flat_map f xs)
each-flat P Q f makes [] h = tt
each-flat P Q f makes (x ∷ xs) h = each-append Q (f x) (flat_map f xs) (makes x h.0) (each-flat P Q f makes xs h.1)

-- ---- lists that rise

abbrev pub Rises : {A : Type 0} → (A → A → Type 0) → List A → Type 0
Rises R [] = Unit {0}
Rises R (x ∷ xs) = AllByRecursion (R x) xs × Rises R xs

pub Rises-filter : {A : Type 0} (R : A → A → Type 0) (test : A → Bool) (xs : List A) → Rises R xs → Rises R (filter test xs)
Rises-filter R test [] h = tt
Rises-filter R test (x ∷ xs) h = by (test x) (Rises-filter R test xs h.1)
  where
    by : (b : Bool) → Rises R (filter test xs) → Rises R (cond b (x ∷ filter test xs) (filter test xs))
    by true more = (each-filter (R x) test xs h.0, more)
    by false more = more

pub Rises-map : {A B : Type 0} (R : A → A → Type 0) (S : B → B → Type 0) (f : A → B) → ((x y : A) → R x y → S (f x) (f y)) → (xs : List A) → Rises R xs → Rises S (map f xs)
Rises-map R S f keeps [] h = tt
Rises-map R S f keeps (x ∷ xs) h = (each-map (R x) (S (f x)) f (keeps x) xs h.0, Rises-map R S f keeps xs h.1)

pub Rises-weaker : {A : Type 0} (R S : A → A → Type 0) → ((x y : A) → R x y → S x y) → (xs : List A) → Rises R xs → Rises S xs
Rises-weaker R S f [] h = tt
Rises-weaker R S f (x ∷ xs) h = (each-weaker (R x) (S x) (f x) xs h.0, Rises-weaker R S f xs h.1)

Rises-append : {A : Type 0} (R : A → A → Type 0) (xs ys : List A) → Rises R xs → AllByRecursion (λ x. AllByRecursion (R x) ys) xs → Rises R ys → Rises R (xs ++ ys)
Rises-append R [] ys h cross more = more
Rises-append R (x ∷ xs) ys h cross more = (each-append (R x) xs ys h.0 cross.0, Rises-append R xs ys h.1 cross.1 more)

-- elements that all stand in the relation to each other
Rises-alike : {A : Type 0} (P : A → Type 0) (R : A → A → Type 0) → ((x y : A) → P x → P y → R x y) → (xs : List A) → AllByRecursion P xs → Rises R xs
Rises-alike P R all [] h = tt
Rises-alike P R all (x ∷ xs) h = (each-weaker P (R x) (λ y p. all x y h.0 p) xs h.1, Rises-alike P R all xs h.1)

-- where each element is followed by what stands for it
module _ {A B : Type 0} (P : A → Type 0) (R : A → A → Type 0) (S : B → B → Type 0) (Stands : A → B → Type 0) (f : A → List B)
    (makes : (x : A) → P x → AllByRecursion (Stands x) (f x))
    (keeps : (x y : A) (u v : B) → P x → P y → R x y → Stands x u → Stands y v → S u v)
    (itself : (x : A) → R x x) where
  behind : (x : A) (u : B) (xs : List A) → P x → Stands x u → AllByRecursion (R x) xs → AllByRecursion P xs → AllByRecursion (S u) (flat_map f xs)
  behind x u [] p s h all = tt
  behind x u (y ∷ xs) p s h all =
      each-append (S u) (f y) (flat_map f xs) (each-weaker (Stands y) (S u) (λ v t. keeps x y u v p all.0 h.0 s t) (f y) (makes y all.0)) (behind x u xs p s h.1 all.1)

  pub Rises-flat : (xs : List A) → AllByRecursion P xs → Rises R xs → Rises S (flat_map f xs)
  Rises-flat [] all h = tt
  Rises-flat (x ∷ xs) all h =
      Rises-append S (f x) (flat_map f xs)
      (Rises-alike (Stands x) S (λ u v s t. keeps x x u v all.0 all.0 (itself x) s t) (f x) (makes x all.0))
      (each-weaker (Stands x) (λ u. AllByRecursion (S u) (flat_map f xs)) (λ u s. behind x u xs all.0 s h.0 all.1) (f x) (makes x all.0))
      (Rises-flat xs all.1 h.1)
