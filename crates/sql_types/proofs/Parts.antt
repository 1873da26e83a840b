-- What the elements of a list have, one after another.
use Rattle.std.proofs.Common.{◌≡◌, ◌<◌, ◌+◌, ◌∙◌, ap, sym, ℕ, List, [], ◌∷◌, ◌++◌, length, take, get_or, append-nil, add-one}
use Rattle.std.specs.List.{flat_map}
use Rattle.std.proofs.Math.Seq.{take-suc}
use Rattle.std.proofs.lemmas.Grind.{flat_map-append}

-- with one more
pub flat-next : {A B : Type 0} (f : A → List B) (xs : List A) (i : ℕ) (x : A) → x ≡ get_or xs i x → i < length xs
    → flat_map f (take (i + 1) xs) ≡ flat_map f (take i xs) ++ f x
flat-next f xs i x is lt =
    ap (λ n. flat_map f (take n xs)) (add-one i)
    ∙ ap (flat_map f) (take-suc xs i x lt)
    ∙ flat_map-append f (take i xs) (get_or xs i x ∷ [])
    ∙ ap (λ rest. flat_map f (take i xs) ++ rest) (append-nil (f (get_or xs i x)) ∙ ap f (sym is))
