-- Places of elements in lists, and lists made one element after another.
use Rattle.std.proofs.Common.{◌≡◌, ◌<◌, ◌≤◌, ◌+◌, ◌∙◌, ℕ, Bool, true, false, cond, not, refl, ap, sym, arith, add-one, drop-cons, List, [], ◌∷◌, ◌++◌, length, map, drop, get_or, Option, Some, None}
use Rattle.std.specs.Prelude.{nat_lt, position}
use Rattle.std.specs.List.{position_or_len}
use Rattle.std.proofs.lemmas.Bool.Decides.{nat_tests}
use Rattle.std.proofs.lemmas.List.{append_assoc}
use Rattle.std.proofs.lemmas.List.Sums.{prefix_len-le-length}
use Rattle.sql_meaning.specs.Names.{places_from}

pub some-place : {X : Type 0} (p : X → Bool) (xs : List X) (at : ℕ) → position p xs ≡ Some at → at ≡ position_or_len p xs
some-place p xs at e = by (nat_lt (position_or_len p xs) (length xs)) e
  where
    by : (b : Bool) → cond b (Some (position_or_len p xs)) None ≡ Some at → at ≡ position_or_len p xs
    by true f = cc
    by false f = absurd (cc)

pub none-place : {X : Type 0} (p : X → Bool) (xs : List X) → position p xs ≡ None → length xs ≡ position_or_len p xs
none-place p xs e = by (nat_lt (position_or_len p xs) (length xs)) refl e
  where
    by : (b : Bool) → nat_lt (position_or_len p xs) (length xs) ≡ b → cond b (Some (position_or_len p xs)) None ≡ None → length xs ≡ position_or_len p xs
    by true k f = absurd (cc)
    by false k f = let most : position_or_len p xs ≤ length xs = prefix_len-le-length (λ x. not (p x)) xs in grind (arith, nat_tests)

-- one element more of a list that is made from another one
pub turn : {X Y : Type 0} (f : X → Y) (xs : List X) (i : ℕ) (d : X) (made new all : List Y) (y : Y) → i < length xs → made ++ map f (drop i xs) ≡ all → y ≡ f (get_or xs i d) → new ≡ made ++ y ∷ [] → new ++ map f (drop (i + 1) xs) ≡ all
turn f xs i d made new all y lt before is e =
    ap (λ ys. ys ++ map f (drop (i + 1) xs)) (e ∙ ap (λ z. made ++ z ∷ []) is)
    ∙ append_assoc made (f (get_or xs i d) ∷ []) (map f (drop (i + 1) xs))
    ∙ ap (λ n. made ++ (f (get_or xs i d) ∷ map f (drop n xs))) (add-one i)
    ∙ ap (λ ys. made ++ map f ys) (sym (drop-cons xs i d lt))
    ∙ before

pub columns-turn : {X : Type 0} (xs : List X) (i : ℕ) (made new all : List ℕ) → i < length xs → made ++ places_from i (drop i xs) ≡ all → new ≡ made ++ i ∷ [] → new ++ places_from (i + 1) (drop (i + 1) xs) ≡ all
columns-turn [] i made new all lt before e = absurd (omega arith)
columns-turn (x ∷ xs) i made new all lt before e =
    ap (λ ys. ys ++ places_from (i + 1) (drop (i + 1) (x ∷ xs))) e
    ∙ append_assoc made (i ∷ []) (places_from (i + 1) (drop (i + 1) (x ∷ xs)))
    ∙ ap (λ n. made ++ (i ∷ places_from (i + 1) (drop n (x ∷ xs)))) (add-one i)
    ∙ ap (λ ys. made ++ places_from i ys) (sym (drop-cons (x ∷ xs) i x lt))
    ∙ before
