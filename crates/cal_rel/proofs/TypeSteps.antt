-- Loops that find the type of each element of a list.
use Rattle.std.proofs.Common.{◌≡◌, ℕ, zero, suc, ◌+◌, ◌<◌, ◌≤◌, List, [], ◌∷◌, ◌++◌, length, take, get_or, Option, Some, None, refl, sym, ◌∙◌, ap, arith}
use Rattle.std.proofs.lemmas.List.{take_more, take_all}
use Rattle.std.proofs.lemmas.Option.{same_Some}
use Rattle.cal_value.specs.declared.kind.SqlType.{SqlType}
use Rattle.cal_rel.specs.Typing.{of_both, types_by}
use Rattle.cal_rel.proofs.RowLemmas.{of_both-some}

both-are : (o : Option SqlType) (p : Option (List SqlType)) (t : SqlType) (ts : List SqlType) → o ≡ Some t → p ≡ Some ts → of_both (λ t ts. Some (t ∷ ts)) o p ≡ Some (t ∷ ts)
both-are o p t ts e f = rw (e, f) refl

types_by-push : {A : Type 0} (f : A → Option SqlType) (xs : List A) (x : A) (ts : List SqlType) (t : SqlType) → types_by f xs ≡ Some ts → f x ≡ Some t → types_by f (xs ++ x ∷ []) ≡ Some (ts ++ t ∷ [])
types_by-push f [] x ts t e k = both-are (f x) (Some []) t [] k refl ∙ ap (λ us. Some (us ++ t ∷ [])) (same_Some [] ts e)
types_by-push f (y ∷ xs) x ts t e k =
    let b = of_both-some (λ t ts. Some (t ∷ ts)) (f y) (types_by f xs) ts e in
    both-are (f y) (types_by f (xs ++ x ∷ [])) b.first (b.second ++ t ∷ []) b.first_is (types_by-push f xs x b.second t b.second_is k)
    ∙ ap (λ us. Some (us ++ t ∷ [])) (same_Some (b.first ∷ b.second) ts b.is)

pub types_by-more : {A : Type 0} (f : A → Option SqlType) (xs : List A) (i : ℕ) (d : A) (t : SqlType) (ts : List SqlType)
    → i < length xs → f (get_or xs i d) ≡ Some t → types_by f (take i xs) ≡ Some ts → types_by f (take (i + 1) xs) ≡ Some (ts ++ t ∷ [])
types_by-more f xs i d t ts l k h = ap (types_by f) (take_more xs i d l) ∙ types_by-push f (take i xs) (get_or xs i d) ts t h k

none-first : (o : Option SqlType) (p : Option (List SqlType)) → o ≡ None → of_both (λ t ts. Some (t ∷ ts)) o p ≡ None
none-first o p e = rw e refl

none-second : (o : Option SqlType) (p : Option (List SqlType)) → p ≡ None → of_both (λ t ts. Some (t ∷ ts)) o p ≡ None
none-second None p e = refl
none-second (Some t) p e = rw e refl

pub types_by-none : {A : Type 0} (f : A → Option SqlType) (xs : List A) (i : ℕ) (d : A) → i < length xs → f (get_or xs i d) ≡ None → types_by f xs ≡ None
types_by-none f [] i d l k = absurd (omega arith)
types_by-none f (y ∷ xs) zero d l k = none-first (f y) (types_by f xs) k
types_by-none f (y ∷ xs) (suc i) d l k = none-second (f y) (types_by f xs) (types_by-none f xs i d (omega arith) k)

pub types_by-all : {A : Type 0} (f : A → Option SqlType) (xs : List A) (i : ℕ) (ts : List SqlType) → length xs ≤ i → types_by f (take i xs) ≡ Some ts → types_by f xs ≡ Some ts
types_by-all f xs i ts l h = ap (types_by f) (sym (take_all i xs l)) ∙ h
