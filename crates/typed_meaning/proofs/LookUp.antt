-- The value of a column is of the column's type.
use Rattle.std.proofs.Common.{◌≡◌, ◌+◌, ◌<◌, ℕ, zero, suc, zero-add, List, [], ◌∷◌, ◌++◌, length, map, All, Option, Some, None, option_map, unwrap_or, slice_get, refl, sym, ◌∙◌, ap, subst, arith}
use Rattle.std.specs.Option.{option_and_then}
use Rattle.std.proofs.lemmas.List.{length-map}
use Rattle.std.proofs.lemmas.List.Elements.{All-head, All-tail}
use Rattle.std.proofs.lemmas.Option.{same_Some}
use Rattle.cal_value.specs.declared.kind.SqlType.{SqlType}
use Rattle.cal_value.specs.declared.value.Value.{Value}
use Rattle.cal_value.specs.Order.{column_of}
use Rattle.cal_value.specs.Types.{IsOfType, HasTypes}
use Rattle.cal_expr.proofs.Typed.{Typed}
use Rattle.sql_tree.specs.declared.tree.ColumnName.{ColumnName}
use Rattle.sql_meaning.specs.Scope.{Header, place_in, place_of, type_in, type_of_column, types_in}
use Rattle.sql_meaning.specs.Value.{EntryRow, look_up}
use Rattle.sql_meaning.proofs.Places.{place_in-within}
use Rattle.typed_meaning.specs.Rows.{IsFilled, IsTypedRow}
use Rattle.typed_meaning.proofs.Rows.{flat, headers, types-length, row-types}

column-front : (row rest : List Value) (at : ℕ) → at < length row → column_of (row ++ rest) at ≡ column_of row at
column-front [] rest at lt = absurd (omega arith)
column-front (v ∷ row) rest zero lt = refl
column-front (v ∷ row) rest (suc at) lt = column-front row rest at (omega arith)

column-behind : (row rest : List Value) (at : ℕ) → column_of (row ++ rest) (length row + at) ≡ column_of rest at
column-behind [] rest at = ap (column_of rest) (zero-add at)
column-behind (v ∷ row) rest at =
    let next : length (v ∷ row) + at ≡ suc (length row + at) = omega arith in
    ap (column_of (v ∷ (row ++ rest))) next ∙ column-behind row rest at

-- a row has as many values as its entry has columns
filled-length : (b : EntryRow) → IsFilled b → length b.row ≡ length b.header.table.columns
filled-length b h = types-length b.row (map (type_of_column b.header) b.header.table.columns) h ∙ length-map b.header.table.columns (type_of_column b.header)

-- the value in the place of the column among all values
pub look_up-flat : (env : List EntryRow) (c : ColumnName) (at : ℕ) → All IsFilled env → place_of (headers env) c ≡ Some at → look_up env c ≡ column_of (flat env) at
look_up-flat [] c at all e = absurd (cc)
look_up-flat (b ∷ bs) c at all e = by (place_in b.header c) refl (place_of (headers bs) c) (λ k. look_up-flat bs c k (All-tail IsFilled b bs all)) e
  where
    wide : length b.row ≡ length b.header.table.columns
    wide = filled-length b (All-head IsFilled b bs all)

    by : (o : Option ℕ) → place_in b.header c ≡ o → (p : Option ℕ) → ((k : ℕ) → p ≡ Some k → look_up bs c ≡ column_of (flat bs) k)
        → unwrap_or (option_map Some o) (option_map (λ k. length b.header.table.columns + k) p) ≡ Some at
        → unwrap_or (option_map (column_of b.row) o) (look_up bs c) ≡ column_of (flat (b ∷ bs)) at
    by (Some k) f p later g =
        let lt : k < length b.header.table.columns = place_in-within b.header c k f in
        sym (column-front b.row (flat bs) k (omega (arith, wide))) ∙ ap (column_of (flat (b ∷ bs))) (same_Some k at g)
    by None f None later g = absurd (cc)
    by None f (Some k) later g =
        later k refl ∙ sym (column-behind b.row (flat bs) k)
        ∙ ap (column_of (flat (b ∷ bs))) (ap (λ n. n + k) wide ∙ same_Some (length b.header.table.columns + k) at g)

column_of-typed : (row : List Value) (ts : List SqlType) (k : ℕ) (t : SqlType) → HasTypes row ts → slice_get ts k ≡ Some t → IsOfType (column_of row k) t
column_of-typed [] [] k t h e = absurd (cc)
column_of-typed [] (s ∷ ts) k t h e = absurd h
column_of-typed (v ∷ row) [] k t h e = absurd h
column_of-typed (v ∷ row) (s ∷ ts) zero t h e = subst (IsOfType v) (same_Some s t e) h.0
column_of-typed (v ∷ row) (s ∷ ts) (suc k) t h e = column_of-typed row ts k t h.1 e

pub look_up-typed : (scope : List Header) (env : List EntryRow) (c : ColumnName) → IsTypedRow scope env → Typed (look_up env c) (type_in scope c)
look_up-typed scope env c h t e = by (place_of scope c) refl e
  where
    by : (o : Option ℕ) → place_of scope c ≡ o → option_and_then (slice_get (types_in scope)) o ≡ Some t → IsOfType (look_up env c) t
    by None f g = absurd (cc)
    by (Some at) f g =
        subst (λ v. IsOfType v t) (sym (look_up-flat env c at h.filled (ap (λ hs. place_of hs c) h.headers ∙ f)))
        (column_of-typed (flat env) (types_in scope) at t (row-types scope env h) g)
