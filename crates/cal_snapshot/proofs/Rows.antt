-- The rows of a table, one by one.
use Rattle.std.proofs.Common.{◌≡◌, ◌<◌, ◌+◌, ℕ, All, List, [], ◌∷◌, length, drop, Option, Some, None, refl, subst, add-one, unwrap_or, get_or, drop-cons}
use Rattle.std.proofs.lemmas.Option.{slice_get_within, get_or_from_slice_get}
use Rattle.std.specs.Prelude.{slice_get}
use Rattle.std.specs.Option.{option_and_then}
use Rattle.cal_value.specs.declared.value.Value.{Value}
use Rattle.cal_snapshot.specs.Parts.{Parts, row_at, rows_in}
use Rattle.cal_snapshot.specs.declared.part.Part.TheVariants.{Table}

-- a list from the place of an element on
pub from-place : (rows : List (List Value)) (at : ℕ) (row : List Value) → slice_get rows at ≡ Some row → drop at rows ≡ row ∷ drop (at + 1) rows
from-place rows at row e =
    let within : at < length rows = slice_get_within rows at row e in
    let same : get_or rows at row ≡ row = get_or_from_slice_get rows at row row e in
    rw (add-one, drop-cons rows at row within, same) refl

pub row-in : (parts : Parts) (table at : ℕ) (row : List Value) → row_at parts (Table table) at ≡ Some row → slice_get (rows_in parts table) at ≡ Some row
row-in parts table at row e = by (slice_get parts.tables table) e
  where
    by : (o : Option (List (List Value))) → option_and_then (λ rows. slice_get rows at) o ≡ Some row → slice_get (unwrap_or o []) at ≡ Some row
    by None f = absurd (Prim.cc)
    by (Some rows) f = f

-- what holds of each row of the table holds of this one
pub each-row : (P : List Value → Type 0) (parts : Parts) (table at : ℕ) (row : List Value) → row_at parts (Table table) at ≡ Some row → All P (rows_in parts table) → P row
each-row P parts table at row e all =
    let there : slice_get (rows_in parts table) at ≡ Some row = row-in parts table at row e in
    subst P (get_or_from_slice_get (rows_in parts table) at row row there) (all at row (slice_get_within (rows_in parts table) at row there))
