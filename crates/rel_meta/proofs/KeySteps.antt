-- Loops over lists of columns, and loops that find something for each element of a list.
use Rattle.std.proofs.Common.{◌≡◌, ℕ, zero, suc, ◌+◌, ◌<◌, List, [], ◌∷◌, ◌++◌, length, drop, get_or, Option, Some, None, refl, sym, ◌∙◌, ap, append_assoc, drop-cons, arith}
use Rattle.std.specs.List.{range_with_len}
use Rattle.std.specs.Option.{option_map}
use Rattle.cal_rel.specs.Typing.{of_both}
use Rattle.rel_meta.specs.Keys.{each_of}

-- ---- so many numbers

range-push : (at n : ℕ) → range_with_len at (suc n) ≡ range_with_len at n ++ (at + n) ∷ []
range-push at zero = let e : at ≡ at + 0 = omega arith in ap (λ m. m ∷ []) e
range-push at (suc n) =
    let e : at + 1 + n ≡ at + suc n = omega arith in
    ap (λ ys. at ∷ ys) (range-push (at + 1) n ∙ ap (λ m. range_with_len (at + 1) n ++ m ∷ []) e)

pub range-more : (n : ℕ) → range_with_len 0 (n + 1) ≡ range_with_len 0 n ++ n ∷ []
range-more n =
    let e : n + 1 ≡ suc n = omega arith in
    let f : 0 + n ≡ n = omega arith in
    ap (range_with_len 0) e ∙ range-push 0 n ∙ ap (λ m. range_with_len 0 n ++ m ∷ []) f

pub ruleset range_steps = (range-more)

-- ---- what each element gives

first-given : {B : Type 0} (made : List B) (o : Option B) (y : B) (p : Option (List B)) → o ≡ Some y
    → option_map (λ rest. (made ++ y ∷ []) ++ rest) p ≡ option_map (λ rest. made ++ rest) (of_both (λ y ys. Some (y ∷ ys)) o p)
first-given made None y p e = absurd (cc)
first-given made (Some z) y None e = refl
first-given made (Some z) y (Some ys) e =
    let is : z ≡ y = cc in
    ap Some (append_assoc made (y ∷ []) ys ∙ ap (λ x. made ++ x ∷ ys) (sym is))

none-given : {B : Type 0} (made : List B) (o : Option B) (p : Option (List B)) → o ≡ None → option_map (λ rest. made ++ rest) (of_both (λ y ys. Some (y ∷ ys)) o p) ≡ None
none-given made None p e = refl
none-given made (Some z) p e = absurd (cc)

-- one more element, at a step of a loop
pub each-more : {A B : Type 0} (f : A → Option B) (xs : List A) (i : ℕ) (d : A) (made : List B) (y : B) → i < length xs → f (get_or xs i d) ≡ Some y
    → option_map (λ rest. (made ++ y ∷ []) ++ rest) (each_of f (drop (i + 1) xs)) ≡ option_map (λ rest. made ++ rest) (each_of f (drop i xs))
each-more f xs i d made y l e =
    let n : i + 1 ≡ suc i = omega arith in
    ap (λ m. option_map (λ rest. (made ++ y ∷ []) ++ rest) (each_of f (drop m xs))) n
    ∙ first-given made (f (get_or xs i d)) y (each_of f (drop (suc i) xs)) e
    ∙ ap (λ zs. option_map (λ rest. made ++ rest) (each_of f zs)) (sym (drop-cons xs i d l))

-- an element that gives nothing
pub each-none : {A B : Type 0} (f : A → Option B) (xs : List A) (i : ℕ) (d : A) (made : List B) → i < length xs → f (get_or xs i d) ≡ None
    → option_map (λ rest. made ++ rest) (each_of f (drop i xs)) ≡ None
each-none f xs i d made l e =
    ap (λ zs. option_map (λ rest. made ++ rest) (each_of f zs)) (drop-cons xs i d l) ∙ none-given made (f (get_or xs i d)) (each_of f (drop (suc i) xs)) e
