-- Loops that put the expressions of a SELECT behind one another.
use Rattle.std.proofs.Common.{◌≡◌, ◌<◌, ◌≤◌, ◌+◌, ◌∙◌, ap, sym, arith, zero-add, add-one, ℕ, List, [], ◌∷◌, ◌++◌, length, map, take, get_or, append-nil, append_assoc}
use Rattle.std.proofs.Math.Seq.{take-suc}
use Rattle.std.proofs.lemmas.List.{length-take-le, map-append, take_all}
use Rattle.sql_tree.specs.declared.select.FromEntry.{FromEntry}
use Rattle.sql_tree.specs.declared.tree.Tree.{Tree}
use Rattle.sql_meaning.specs.declared.parts.Role.TheVariants.{Join}
use Rattle.sql_meaning.specs.declared.parts.SelectPart.{SelectPart}
use Rattle.sql_meaning.specs.Parts.{conditions, join_parts, part}

-- with one more of a list
pub map-turn : {A B : Type 0} (f : A → B) (xs : List A) (i : ℕ) (x : A) (old made new : List B) → x ≡ get_or xs i x → i < length xs
    → made ≡ old ++ map f (take i xs) → new ≡ made ++ f x ∷ [] → new ≡ old ++ map f (take (i + 1) xs)
map-turn f xs i x old made new is lt e en =
    en
    ∙ ap (λ ys. ys ++ f x ∷ []) e
    ∙ append_assoc old (map f (take i xs)) (f x ∷ [])
    ∙ ap (λ ys. old ++ ys) (ap (λ y. map f (take i xs) ++ f y ∷ []) is
    ∙ sym (ap (λ n. map f (take n xs)) (add-one i) ∙ ap (map f) (take-suc xs i x lt) ∙ map-append f (take i xs) (get_or xs i x ∷ [])))

pub map-whole : {A B : Type 0} (f : A → B) (xs : List A) (i : ℕ) (old made : List B) → length xs ≤ i → made ≡ old ++ map f (take i xs) → made ≡ old ++ map f xs
map-whole f xs i old made past e = e ∙ ap (λ ys. old ++ map f ys) (take_all i xs past)

-- ---- joins

join_parts-push : (before : ℕ) (entries : List FromEntry) (entry : FromEntry) → join_parts before (entries ++ entry ∷ [])
    ≡ join_parts before entries ++ map (part (before + length entries + 1) Join) (conditions entry)
join_parts-push before [] entry =
    let here : before + 1 ≡ before + 0 + 1 = omega arith in
    append-nil (map (part (before + 1) Join) (conditions entry)) ∙ ap (λ n. map (part n Join) (conditions entry)) here
join_parts-push before (first ∷ entries) entry =
    let next : before + 1 + length entries + 1 ≡ before + length (first ∷ entries) + 1 = omega arith in
    ap (λ ps. map (part (before + 1) Join) (conditions first) ++ ps) (join_parts-push (before + 1) entries entry ∙ ap (λ n. join_parts (before + 1) entries ++ map (part n Join) (conditions entry)) next)
    ∙ sym (append_assoc (map (part (before + 1) Join) (conditions first)) (join_parts (before + 1) entries) (map (part (before + length (first ∷ entries) + 1) Join) (conditions entry)))

-- with the conditions of one more entry
pub joins-turn : (from : List FromEntry) (i : ℕ) (entry : FromEntry) (trees : List Tree) (old made new : List SelectPart) → entry ≡ get_or from i entry → i < length from
    → made ≡ old ++ join_parts 0 (take i from) → trees ≡ conditions entry → new ≡ made ++ map (part (i + 1) Join) trees → new ≡ old ++ join_parts 0 (take (i + 1) from)
joins-turn from i entry trees old made new is lt e et en =
    let here : length (take i from) ≡ i = length-take-le i from (omega arith) in
    en
    ∙ ap (λ ps. ps ++ map (part (i + 1) Join) trees) e
    ∙ append_assoc old (join_parts 0 (take i from)) (map (part (i + 1) Join) trees)
    ∙ ap (λ ps. old ++ ps) (ap (λ ts. join_parts 0 (take i from) ++ map (part (i + 1) Join) ts) (et ∙ ap conditions is)
    ∙ ap (λ n. join_parts 0 (take i from) ++ map (part (n + 1) Join) (conditions (get_or from i entry))) (sym (zero-add (length (take i from)) ∙ here))
    ∙ sym (ap (λ n. join_parts 0 (take n from)) (add-one i) ∙ ap (join_parts 0) (take-suc from i entry lt) ∙ join_parts-push 0 (take i from) (get_or from i entry)))

pub joins-whole : (from : List FromEntry) (i : ℕ) (old made : List SelectPart) → length from ≤ i → made ≡ old ++ join_parts 0 (take i from) → made ≡ old ++ join_parts 0 from
joins-whole from i old made past e = e ∙ ap (λ es. old ++ join_parts 0 es) (take_all i from past)
