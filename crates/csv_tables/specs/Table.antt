-- The rows of a file, or its first fault.
use Rattle.std.specs.Prelude.{ℕ, ◌+◌, ◌==◌, ◌&&◌, nat_lt, Bool, true, false, not, List, [], ◌∷◌, ◌++◌, length, map, Option, Some, None, Result, Err, if◌then◌else◌}
use Rattle.std.specs.Ordering.{int_eq}
use Rattle.std.specs.List.{list_any}
use Rattle.std.specs.Cmp.Lexicographic.{pointwise}
use Rattle.cal_value.specs.Equal.{row_eq}
use Rattle.cal_value.specs.Types.{same_kind}
use Rattle.cal_value.specs.declared.interval.Interval.{Interval}
use Rattle.cal_value.specs.declared.interval.Interval.TheVariants.{Never, Range}
use Rattle.cal_value.specs.declared.value.Value.{Value}
use Rattle.cal_schema.specs.declared.column.ColumnDef.{ColumnDef}
use Rattle.cal_schema.specs.declared.table.TableDef.{TableDef}
use Rattle.cal_schema.specs.Fits.{key_of}
use Rattle.cal_schema.specs.Lookup.{is_same_name}
use Rattle.csv_tables.specs.declared.fault.CsvCause.{CsvCause}
use Rattle.csv_tables.specs.declared.fault.CsvCause.TheVariants.{NoHeader, HeaderChanged, WrongCount, KeyTaken}
use Rattle.csv_tables.specs.declared.fault.CsvFault.{CsvFault}
use Rattle.csv_tables.specs.declared.fault.CsvFault.TheVariants.{CsvBad, TableFull}
use Rattle.csv_tables.specs.Field.{field_cause, value_of}
use Rattle.csv_tables.specs.Header.{all_records, fault_at, told, header_faults, column_in}

-- ---- the header of the table

abbrev pub is_same_interval : Interval → Interval → Bool
is_same_interval Never Never = true
is_same_interval (Range a b) (Range c d) = int_eq a c && int_eq b d
is_same_interval a b = false

-- one name and one type, up to NULL, which a header doesn't speak of
abbrev pub is_same_column : ColumnDef → ColumnDef → Bool
is_same_column a b = is_same_name a.name b.name && same_kind a.kind.kind b.kind.kind && is_same_interval a.kind.interval b.kind.interval

-- the header names the table's columns, in their order
abbrev pub is_header_of : List ColumnDef → List ColumnDef → Bool
is_header_of columns named = pointwise is_same_column columns named

abbrev pub changed_cause : TableDef → List (List ℕ) → Option CsvCause
changed_cause table fields = if is_header_of table.columns (map column_in fields) then None else Some HeaderChanged

-- ---- the rows

abbrev pub values_of : List ColumnDef → List (List ℕ) → List Value
values_of [] fields = []
values_of (c ∷ cs) [] = []
values_of (c ∷ cs) (f ∷ fs) = value_of c.kind.kind f ∷ values_of cs fs

-- the row of a record: the value of each field in its column
abbrev pub row_of : TableDef → List (List ℕ) → List Value
row_of table fields = values_of table.columns fields

-- the faults of these fields in these columns, of which the first has this number
abbrev pub field_faults : ℕ → ℕ → List ColumnDef → List (List ℕ) → List CsvFault
field_faults number column [] fields = []
field_faults number column (c ∷ cs) [] = []
field_faults number column (c ∷ cs) (f ∷ fs) = fault_at number column (field_cause c.kind f) ++ field_faults number (column + 1) cs fs

abbrev pub count_cause : TableDef → List (List ℕ) → Option CsvCause
count_cause table fields = if length fields == length table.columns then None else Some WrongCount

abbrev pub has_key : TableDef → Bool
has_key table = not (length table.primary_key == 0)

-- the key of the record's row is among the keys of earlier rows
abbrev pub key_cause : TableDef → List (List Value) → List (List ℕ) → Option CsvCause
key_cause table taken fields = if has_key table && list_any (row_eq (key_of table (row_of table fields))) taken then Some KeyTaken else None

-- the faults of a record, given the keys of the earlier rows
abbrev pub record_faults : TableDef → ℕ → List (List Value) → List (List ℕ) → List CsvFault
record_faults table number taken fields =
    fault_at number 0 (count_cause table fields) ++ field_faults number 1 table.columns fields ++ fault_at number 0 (key_cause table taken fields)

-- the faults of a record after these rows; the header is record 1
abbrev pub row_faults : TableDef → List (List Value) → List (List ℕ) → List CsvFault
row_faults table rows fields =
    if nat_lt (length rows) table.max_rows then record_faults table (length rows + 2) (map (key_of table) rows) fields
    else TableFull table.max_rows ∷ []

-- the faults of the records after these rows
abbrev pub rows_faults : TableDef → List (List Value) → List (List (List ℕ)) → List CsvFault
rows_faults table rows [] = []
rows_faults table rows (fields ∷ records) = row_faults table rows fields ++ rows_faults table (rows ++ row_of table fields ∷ []) records

-- the rows that the records give after the header
abbrev pub rows_after_header : TableDef → List (List (List ℕ)) → Result (List (List Value)) CsvFault
rows_after_header table records = told (rows_faults table [] records) (map (row_of table) records)

-- the faults of the header as that of this table
abbrev pub table_header_faults : TableDef → List (List ℕ) → List CsvFault
table_header_faults table fields = header_faults [] fields ++ fault_at 1 0 (changed_cause table fields)

abbrev pub table_in : TableDef → List (List (List ℕ)) → Result (List (List Value)) CsvFault
table_in table [] = Err (CsvBad 1 0 NoHeader)
table_in table (fields ∷ records) =
    told (table_header_faults table fields ++ rows_faults table [] records) (map (row_of table) records)

-- the rows of a table's file, or its first fault
abbrev pub table_of : List ℕ → TableDef → Result (List (List Value)) CsvFault
table_of bytes table = table_in table (all_records bytes)
