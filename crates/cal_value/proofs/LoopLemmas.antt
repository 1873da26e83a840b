-- Loops over one list and over two, place by place.
use Rattle.std.proofs.Common.{◌≡◌, ℕ, zero, suc, ◌+◌, ◌<◌, ◌≤◌, All, subst, List, [], ◌∷◌, length, take, get_or, arith, add-one, sym, ap, ◌∙◌}
use Rattle.std.specs.List.{AllZip}
use Rattle.std.proofs.Math.Seq.{take-suc}
use Rattle.std.proofs.lemmas.List.{take_all}
use Rattle.std.proofs.lemmas.List.Elements.{All-more}
use Rattle.std.proofs.lemmas.Slice.Zip.{all_zipped_more}

pub AllZip-at : {A B : Type 0} (R : A → B → Type 0) (xs : List A) (ys : List B) (i : ℕ) (d : A) (e : B) → AllZip R xs ys → i < length xs → R (get_or xs i d) (get_or ys i e)
AllZip-at R [] [] i d e h k = absurd (omega arith)
AllZip-at R [] (y ∷ ys) i d e h k = absurd h
AllZip-at R (x ∷ xs) [] i d e h k = absurd h
AllZip-at R (x ∷ xs) (y ∷ ys) zero d e h k = h.0
AllZip-at R (x ∷ xs) (y ∷ ys) (suc i) d e h k = AllZip-at R xs ys i d e h.1 (omega arith)

-- of two lists that a loop reads, which are `us` and `vs`, the items at one place
pub AllZip-read : {A B : Type 0} (R : A → B → Type 0) (xs us : List A) (ys vs : List B) (i : ℕ) (x : A) (e : B) → us ≡ xs → vs ≡ ys → x ≡ get_or us i x → i < length us
    → AllZip R xs ys → R x (get_or vs i e)
AllZip-read R xs us ys vs i x e u v is h all =
    let at : x ≡ get_or xs i x = is ∙ ap (λ l. get_or l i x) u in
    rw (at, v) (AllZip-at R xs ys i x e all (omega (arith, ap length u)))

pub AllZip-step : {A B : Type 0} (R : A → B → Type 0) (us : List A) (vs : List B) (i : ℕ) (x : A) (e : B) → x ≡ get_or us i x → i < length us → i < length vs
    → AllZip R (take i us) (take i vs) → R x (get_or vs i e) → AllZip R (take (i + 1) us) (take (i + 1) vs)
AllZip-step R us vs i x e is h k all more =
    rw (add-one i, take-suc us i x h, take-suc vs i e k, sym is) (all_zipped_more R (take i us) (take i vs) x (get_or vs i e) all more)

-- ---- a loop over one list, `us`, which is `xs`

pub All-step : {A : Type 0} (P : A → Type 0) (xs us : List A) (i : ℕ) (x : A) → us ≡ xs → x ≡ get_or us i x → i < length us → All P (take i xs) → P x → All P (take (i + 1) xs)
All-step P xs us i x u is h all more =
    let at : get_or xs i x ≡ x = sym (is ∙ ap (λ l. get_or l i x) u) in
    All-more P xs i x (omega (arith, ap length u)) all (subst P (sym at) more)

pub All-whole : {A : Type 0} (P : A → Type 0) (xs us : List A) (i : ℕ) → us ≡ xs → length us ≤ i → All P (take i xs) → All P xs
All-whole P xs us i u h all = subst (All P) (take_all i xs (omega (arith, ap length u))) all
