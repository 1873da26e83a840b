-- Two lists side by side.
use Rattle.std.proofs.Common.{◌≡◌, ◌<◌, ℕ, ◌+◌, List, [], ◌∷◌, ◌++◌, length, sym, ap, ◌∙◌, subst, append-nil, append_assoc, drop, get_or}
use Rattle.std.specs.List.{AllZip}
use Rattle.std.proofs.lemmas.List.{drop_more}
use Rattle.cal_schema.specs.Fits.{AreFilledBy, IsFilledBy}
use Rattle.cal_schema.specs.declared.table.TableDef.{TableDef}
use Rattle.cal_value.specs.declared.value.Value.{Value}

-- What goes with the rest completes what there is.
pub record Completes {A B : Type 0} (R : A → B → Type 0) (xs rest : List A) (ys : List B) : Type 0 where
  pub with_rest : (zs : List B) → AllZip R rest zs → AllZip R xs (ys ++ zs)

pub completes_more : {A B : Type 0} (R : A → B → Type 0) (xs rest rest' : List A) (ys : List B) (x : A) (y : B)
    → rest ≡ x ∷ rest' → R x y → Completes R xs rest ys → Completes R xs rest' (ys ++ y ∷ [])
completes_more {A} {B} R xs rest rest' ys x y is holds c = record {
  with_rest = λ zs all. subst (λ (l : List B). AllZip R xs l) (sym (append_assoc ys (y ∷ []) zs))
      (c.with_rest (y ∷ zs) (subst (λ (l : List A). AllZip R l (y ∷ zs)) (sym is) (holds, all)));
}

pub completes_all : {A B : Type 0} (R : A → B → Type 0) (xs rest : List A) (ys : List B) → rest ≡ [] → Completes R xs rest ys → AllZip R xs ys
completes_all {A} {B} R xs rest ys none c =
    subst (λ (l : List B). AllZip R xs l) (append-nil ys) (c.with_rest [] (subst (λ (l : List A). AllZip R l []) (sym none) tt))

-- the element of this number comes first of those that are left
pub first_left : {A : Type 0} (xs : List A) (i : ℕ) (x : A) → i < length xs → x ≡ get_or xs i x → drop i xs ≡ x ∷ drop (i + 1) xs
first_left xs i x lt is = drop_more xs i x lt ∙ ap (λ y. y ∷ drop (i + 1) xs) (sym is)

pub filled_from_zip : (ts : List TableDef) (rs : List (List (List Value))) → AllZip IsFilledBy ts rs → AreFilledBy ts rs
filled_from_zip [] [] all = tt
filled_from_zip [] (r ∷ rs) all = absurd all
filled_from_zip (t ∷ ts) [] all = absurd all
filled_from_zip (t ∷ ts) (r ∷ rs) all = (all.0, filled_from_zip ts rs all.1)
