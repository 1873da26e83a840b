-- Loops that put what each element has behind one another.
use Rattle.std.proofs.Common.{◌≡◌, ◌<◌, ◌≤◌, ◌+◌, ◌∙◌, ap, sym, refl, add-one, ℕ, List, [], ◌∷◌, ◌++◌, length, map, take, get_or, append-nil, append_assoc}
use Rattle.std.specs.List.{flat_map}
use Rattle.std.proofs.Math.Seq.{take-suc}
use Rattle.std.proofs.lemmas.Grind.{flat_map-append}
use Rattle.std.proofs.lemmas.List.{map-append, take_all}
use Rattle.std.proofs.lemmas.List.Folds.{flat_map-map}
use Rattle.sql_meaning.specs.declared.mention.Mention.{Mention}
use Rattle.sql_meaning.specs.Mentions.{entry_mentions, from_mentions}
use Rattle.sql_meaning.specs.Scope.{Header}

-- with what one more of a list has
pub flat-turn : {A B : Type 0} (f : A → List B) (xs : List A) (i : ℕ) (x : A) (old made new : List B) → x ≡ get_or xs i x → i < length xs
    → made ≡ old ++ flat_map f (take i xs) → new ≡ made ++ f x → new ≡ old ++ flat_map f (take (i + 1) xs)
flat-turn f xs i x old made new is lt e en =
    en
    ∙ ap (λ ys. ys ++ f x) e
    ∙ append_assoc old (flat_map f (take i xs)) (f x)
    ∙ ap (λ ys. old ++ ys) (ap (λ y. flat_map f (take i xs) ++ f y) is
    ∙ ap (λ ys. flat_map f (take i xs) ++ ys) (sym (append-nil (f (get_or xs i x))))
    ∙ sym (ap (λ n. flat_map f (take n xs)) (add-one i) ∙ ap (flat_map f) (take-suc xs i x lt) ∙ flat_map-append f (take i xs) (get_or xs i x ∷ [])))

pub flat-whole : {A B : Type 0} (f : A → List B) (xs : List A) (i : ℕ) (old made : List B) → length xs ≤ i → made ≡ old ++ flat_map f (take i xs) → made ≡ old ++ flat_map f xs
flat-whole f xs i old made past e = e ∙ ap (λ ys. old ++ flat_map f ys) (take_all i xs past)

-- an image of what each has
pub map-flat_map : {A B C : Type 0} (g : B → C) (f : A → List B) (xs : List A) → map g (flat_map f xs) ≡ flat_map (λ x. map g (f x)) xs
map-flat_map g f [] = refl
map-flat_map g f (x ∷ xs) = map-append g (f x) (flat_map f xs) ∙ ap (λ ys. map g (f x) ++ ys) (map-flat_map g f xs)

-- with the images of what one more of a list has
pub image-turn : {A B C : Type 0} (g : B → C) (f : A → List B) (xs : List A) (i : ℕ) (x : A) (old made new : List C) → x ≡ get_or xs i x → i < length xs
    → made ≡ old ++ map g (flat_map f (take i xs)) → new ≡ made ++ map g (f x) → new ≡ old ++ map g (flat_map f (take (i + 1) xs))
image-turn g f xs i x old made new is lt e en =
    flat-turn (λ y. map g (f y)) xs i x old made new is lt (e ∙ ap (λ ys. old ++ ys) (map-flat_map g f (take i xs))) en
    ∙ ap (λ ys. old ++ ys) (sym (map-flat_map g f (take (i + 1) xs)))

-- ---- entries of FROM

-- those before an entry, and the entry
pub seen-next : {A : Type 0} (xs : List A) (i : ℕ) (x : A) → x ≡ get_or xs i x → i < length xs → take (i + 1) xs ≡ take i xs ++ x ∷ []
seen-next xs i x is lt = ap (λ n. take n xs) (add-one i) ∙ take-suc xs i x lt ∙ ap (λ y. take i xs ++ y ∷ []) (sym is)

from_mentions-push : (before hs : List Header) (h : Header) → from_mentions before (hs ++ h ∷ []) ≡ from_mentions before hs ++ entry_mentions (before ++ hs) h
from_mentions-push before [] h = append-nil (entry_mentions before h) ∙ ap (λ (bs : List Header). entry_mentions bs h) (sym (append-nil before))
from_mentions-push before (first ∷ hs) h =
    ap (λ ms. entry_mentions before first ++ ms) (from_mentions-push (before ++ first ∷ []) hs h ∙ ap (λ (bs : List Header). from_mentions (before ++ first ∷ []) hs ++ entry_mentions bs h) (append_assoc before (first ∷ []) hs))
    ∙ sym (append_assoc (entry_mentions before first) (from_mentions (before ++ first ∷ []) hs) (entry_mentions (before ++ first ∷ hs) h))

-- with the names of one more entry
pub from-turn : (scope : List Header) (i : ℕ) (h : Header) (old made new : List Mention) → h ≡ get_or scope i h → i < length scope
    → made ≡ old ++ from_mentions [] (take i scope) → new ≡ made ++ entry_mentions (take i scope) h → new ≡ old ++ from_mentions [] (take (i + 1) scope)
from-turn scope i h old made new is lt e en =
    en
    ∙ ap (λ ms. ms ++ entry_mentions (take i scope) h) e
    ∙ append_assoc old (from_mentions [] (take i scope)) (entry_mentions (take i scope) h)
    ∙ ap (λ ms. old ++ ms) (sym (ap (from_mentions []) (seen-next scope i h is lt) ∙ from_mentions-push [] (take i scope) h))

pub ruleset mention_rules = (flat_map-map, map-flat_map, map-append, flat_map-append, append-nil, append_assoc)
