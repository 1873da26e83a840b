-- The first record of a file: the columns that it names, or its first fault.
use Rattle.std.specs.Prelude.{◌≡◌, true, ℕ, ◌+◌, nat_le, List, [], ◌∷◌, ◌++◌, length, map, Option, Some, None, Result, Ok, Err, if◌then◌else◌, unwrap_or, ⊤}
use Rattle.std.specs.List.{list_any}
use Rattle.std.specs.Str.{chars, is_utf8}
use Rattle.csv.specs.Reading.{default_config, records, strip_bom}
use Rattle.cal_value.specs.declared.limits.TheConstants.{COLUMN_LIMIT}
use Rattle.cal_value.specs.Types.{text_type}
use Rattle.cal_schema.specs.declared.column.ColumnDef.{ColumnDef}
use Rattle.cal_schema.specs.declared.column.ColumnFault.{ColumnFault}
use Rattle.cal_schema.specs.Column.{column_of, name_part, word_part, type_named}
use Rattle.cal_schema.specs.Lookup.{is_same_name}
use Rattle.csv_tables.specs.declared.fault.CsvCause.{CsvCause}
use Rattle.csv_tables.specs.declared.fault.CsvCause.TheVariants.{NoHeader, TooManyColumns, NotUtf8, BadHeader, Repeated}
use Rattle.csv_tables.specs.declared.fault.CsvFault.{CsvFault}
use Rattle.csv_tables.specs.declared.fault.CsvFault.TheVariants.{CsvBad, TableFull, NoMemory}

-- all records of a file, with the first, each the list of its fields
abbrev pub all_records : List ℕ → List (List (List ℕ))
all_records bytes = records default_config (strip_bom bytes)

-- the fault at a record and a column, both counted from 1, where there is a cause
abbrev pub fault_at : ℕ → ℕ → Option CsvCause → List CsvFault
fault_at number column None = []
fault_at number column (Some cause) = CsvBad number column cause ∷ []

-- the first of the faults is told
abbrev pub told : {X : Type 0} → List CsvFault → X → Result X CsvFault
told [] x = Ok x
told (fault ∷ faults) x = Err fault

-- the answer is the wanted one, or want of memory
abbrev pub Answers : {X : Type 0} → Result X CsvFault → Result X CsvFault → Type 0
Answers wanted (Ok x) = wanted ≡ Ok x
Answers wanted (Err (CsvBad number column cause)) = wanted ≡ Err (CsvBad number column cause)
Answers wanted (Err (TableFull limit)) = wanted ≡ Err (TableFull limit)
Answers wanted (Err NoMemory) = ⊤

-- the column that a field names
abbrev pub column_in : List ℕ → ColumnDef
column_in field = record { name = name_part (chars field); kind = unwrap_or (type_named (word_part (chars field))) (text_type true) }

abbrev pub named_cause : List ColumnDef → Result ColumnDef ColumnFault → Option CsvCause
named_cause earlier (Err fault) = Some BadHeader
named_cause earlier (Ok column) = if list_any (λ e. is_same_name e.name column.name) earlier then Some Repeated else None

-- why a field names no further column after these
abbrev pub header_cause : List ColumnDef → List ℕ → Option CsvCause
header_cause earlier field =
    if nat_le COLUMN_LIMIT (length earlier) then Some TooManyColumns
    else if is_utf8 field then named_cause earlier (column_of (chars field))
    else Some NotUtf8

-- the faults of these fields of the header, which stand after those of the earlier columns
abbrev pub header_faults : List ColumnDef → List (List ℕ) → List CsvFault
header_faults earlier [] = []
header_faults earlier (field ∷ fields) = fault_at 1 (length earlier + 1) (header_cause earlier field) ++ header_faults (earlier ++ column_in field ∷ []) fields

-- the columns of the first record
abbrev pub columns_of : List (List (List ℕ)) → Result (List ColumnDef) CsvFault
columns_of [] = Err (CsvBad 1 0 NoHeader)
columns_of (fields ∷ records) = told (header_faults [] fields) (map column_in fields)

-- the columns that a file names, or the first fault of its header
abbrev pub header_of : List ℕ → Result (List ColumnDef) CsvFault
header_of bytes = columns_of (all_records bytes)
