-- Keys of rows that fit a valid table.
use Rattle.std.proofs.Common.{◌≡◌, ◌≢◌, ◌<◌, ℕ, true, false, List, length, get_or, Option, Some, None, refl, ap, subst, ◌∙◌, arith, slice_get, option_map, unwrap_or, IsSomeAnd, MatchOption, inl, inr}
use Rattle.std.specs.List.{All, Contains}
use Rattle.std.proofs.lemmas.List.Elements.{All-map, All-weaker, Contains-get_or}
use Rattle.std.proofs.lemmas.Option.{slice_get-map, slice_get_cases}
use Rattle.std.proofs.lemmas.Slice.Zip.{AllZip-right}
use Rattle.cal_value.specs.declared.kind.SqlType.{SqlType}
use Rattle.cal_value.specs.declared.value.Value.{Value}
use Rattle.cal_value.specs.declared.value.Value.TheVariants.{Null, Bool as BoolValue, Int, Text}
use Rattle.cal_value.specs.Logic.{is_null}
use Rattle.cal_value.specs.Order.{column_of}
use Rattle.cal_value.specs.Types.{HasTypes, IsOfType}
use Rattle.cal_schema.specs.declared.column.ColumnDef.{ColumnDef}
use Rattle.cal_schema.specs.declared.table.TableDef.{TableDef}
use Rattle.cal_schema.specs.Fits.{HasWholeKey, IsFilledBy, types_of}
use Rattle.cal_schema.specs.Valid.{IsValidTable}

-- a value of a type without NULL
is_some_value : (v : Value) (t : SqlType) → IsOfType v t → t.nullable ≢ true → is_null v ≡ false
is_some_value Null t is never = absurd (never is)
is_some_value (BoolValue b) t is never = refl
is_some_value (Int n) t is never = refl
is_some_value (Text s) t is never = refl

-- the value of this type that stands there
value_of_type : (o : Option Value) (t : SqlType) → IsSomeAnd o (λ v. IsOfType v t) → t.nullable ≢ true → is_null (unwrap_or o Null) ≡ false
value_of_type None t is never = absurd is
value_of_type (Some v) t is never = is_some_value v t is never

-- the value in a column that is there, and isn't nullable
value_there : (table : TableDef) (row : List Value) → IsValidTable table → HasTypes row (types_of table) → (k : ℕ) (c : ColumnDef) → slice_get table.columns k ≡ Some c → Contains table.primary_key k → is_null (column_of row k) ≡ false
value_there table row valid typed k c there key =
    let never : c.kind.nullable ≢ true = λ yes. (valid.nulls k c there).0 yes key in
    let type_there : slice_get (types_of table) k ≡ Some c.kind = slice_get-map (λ (e : ColumnDef). e.kind) table.columns k ∙ ap (option_map (λ (e : ColumnDef). e.kind)) there in
    let P : Option SqlType → Type 0 = λ o. MatchOption o (Unit {0}) (λ t. IsSomeAnd (slice_get row k) (λ v. IsOfType v t)) in
    value_of_type (slice_get row k) c.kind (subst P type_there (AllZip-right IsOfType row (types_of table) typed k)) never

key_value : (table : TableDef) (row : List Value) → IsValidTable table → HasTypes row (types_of table) → (k : ℕ) → k < length table.columns → Contains table.primary_key k → is_null (column_of row k) ≡ false
key_value table row valid typed k within key = elim ((slice_get_cases table.columns k).1) [
  | inl found ↦ value_there table row valid typed k found.0 found.2 key
  | inr past ↦ absurd (omega (arith, past.0))
]

pub whole_key : (table : TableDef) (row : List Value) → IsValidTable table → HasTypes row (types_of table) → HasWholeKey table row
whole_key table row valid typed =
    All-map (λ v. is_null v ≡ false) (column_of row) table.primary_key
    (λ k d lt. key_value table row valid typed (get_or table.primary_key k d) (valid.key_there k d lt) (Contains-get_or table.primary_key k d lt))

pub whole_keys : (table : TableDef) (rows : List (List Value)) → IsValidTable table → IsFilledBy table rows → All (HasWholeKey table) rows
whole_keys table rows valid filled =
    All-weaker (λ row. HasTypes row (types_of table)) (HasWholeKey table) (λ row typed. whole_key table row valid typed) rows filled.typed

pub ruleset key_rules = (whole_keys)
