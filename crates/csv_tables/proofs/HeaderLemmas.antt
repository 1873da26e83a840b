-- The walk over the fields of a header.
use Rattle.std.proofs.Common.{◌≡◌, ◌<◌, ◌+◌, ℕ, Bool, true, false, List, [], ◌∷◌, ◌++◌, length, map, Option, Some, None, Err, sym, ap, ◌∙◌, refl, append_assoc, nat_le, if◌then◌else◌}
use Rattle.std.proofs.lemmas.Bool.{leb-false}
use Rattle.cal_value.specs.declared.limits.TheConstants.{COLUMN_LIMIT}
use Rattle.std.specs.Str.{chars, is_utf8}
use Rattle.cal_schema.specs.Column.{column_of}
use Rattle.cal_schema.specs.declared.column.ColumnDef.{ColumnDef}
use Rattle.csv_tables.specs.declared.fault.CsvCause.{CsvCause}
use Rattle.csv_tables.specs.declared.fault.CsvCause.TheVariants.{TooManyColumns, NotUtf8}
use Rattle.csv_tables.specs.declared.fault.CsvFault.TheVariants.{CsvBad}
use Rattle.csv_tables.specs.Header.{header_cause, named_cause, header_faults, column_in, told, fault_at}

-- a field without a cause leaves the faults to the fields after it
pub header-step : (earlier : List ColumnDef) (fields rest : List (List ℕ)) (field : List ℕ) → fields ≡ field ∷ rest → header_cause earlier field ≡ None
    → header_faults (earlier ++ column_in field ∷ []) rest ≡ header_faults earlier fields
header-step earlier fields rest field e none = sym (ap (header_faults earlier) e ∙ ap (λ (c : Option CsvCause). fault_at 1 (length earlier + 1) c ++ header_faults (earlier ++ column_in field ∷ []) rest) none)

-- a field with a cause is the first fault
pub header-stop : {X : Type 0} (earlier : List ColumnDef) (fields rest : List (List ℕ)) (field : List ℕ) (cause : CsvCause) (x : X) → fields ≡ field ∷ rest → header_cause earlier field ≡ Some cause
    → told (header_faults earlier fields) x ≡ Err (CsvBad 1 (length earlier + 1) cause)
header-stop earlier fields rest field cause x e some =
    ap (λ (fs : List (List ℕ)). told (header_faults earlier fs) x) e
    ∙ ap (λ (c : Option CsvCause). told (fault_at 1 (length earlier + 1) c ++ header_faults (earlier ++ column_in field ∷ []) rest) x) some

-- one more column
pub columns-step : (earlier : List ColumnDef) (fields rest : List (List ℕ)) (field : List ℕ) → fields ≡ field ∷ rest
    → (earlier ++ column_in field ∷ []) ++ map column_in rest ≡ earlier ++ map column_in fields
columns-step earlier fields rest field e = append_assoc earlier (column_in field ∷ []) (map column_in rest) ∙ ap (λ (fs : List (List ℕ)). earlier ++ map column_in fs) (sym e)

-- no 33rd column
pub header-room : (earlier : List ColumnDef) (field : List ℕ) → header_cause earlier field ≡ None → length earlier < COLUMN_LIMIT
header-room earlier field none = by (nat_le COLUMN_LIMIT (length earlier)) refl none
  where
    by : (b : Bool) → nat_le COLUMN_LIMIT (length earlier) ≡ b → (if b then Some TooManyColumns else (if is_utf8 field then named_cause earlier (column_of (chars field)) else Some NotUtf8)) ≡ None → length earlier < COLUMN_LIMIT
    by true e f = absurd (Prim.cc)
    by false e f = leb-false COLUMN_LIMIT (length earlier) e
