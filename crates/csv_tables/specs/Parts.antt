-- What the parts of a reading answer.
use Rattle.std.specs.Prelude.{◌≡◌, true, false, nat_lt, List, ℕ, length, Some, None, Result, Ok, Err, if◌then◌else◌, ⊤}
use Rattle.std.specs.Str.{chars}
use Rattle.cal_value.specs.declared.interval.Interval.{Interval}
use Rattle.cal_value.specs.declared.kind.SqlType.{SqlType}
use Rattle.cal_value.specs.declared.limits.TheConstants.{TEXT_LIMIT}
use Rattle.cal_value.specs.declared.value.Value.{Value}
use Rattle.cal_value.specs.declared.value.Value.TheVariants.{Int, Text}
use Rattle.cal_schema.specs.declared.column.ColumnDef.{ColumnDef}
use Rattle.csv_tables.specs.declared.fault.CsvCause.TheVariants.{BadInteger, TextTooLong}
use Rattle.csv_tables.specs.declared.fault.FieldFault.{FieldFault}
use Rattle.csv_tables.specs.declared.fault.FieldFault.TheVariants.{Bad, NoMemory}
use Rattle.csv_tables.specs.Field.{field_cause, is_integer, number_of, value_of}
use Rattle.csv_tables.specs.Header.{column_in, header_cause}

-- the number that a field is, in this interval
abbrev pub number_in : Interval → List ℕ → Result Value FieldFault
number_in interval field = if is_integer interval field then Ok (Int (number_of field)) else Err (Bad BadInteger)

-- the answer is the value or the cause, or want of memory
abbrev pub FieldSays : SqlType → List ℕ → Result Value FieldFault → Type 0
FieldSays t field (Ok value) = (field_cause t field ≡ None) × (value ≡ value_of t.kind field)
FieldSays t field (Err (Bad cause)) = field_cause t field ≡ Some cause
FieldSays t field (Err NoMemory) = ⊤

-- the same of a text
abbrev pub TextSays : List ℕ → Result Value FieldFault → Type 0
TextSays text (Ok value) = (nat_lt TEXT_LIMIT (length (chars text)) ≡ false) × (value ≡ Text (chars text))
TextSays text (Err (Bad cause)) = (nat_lt TEXT_LIMIT (length (chars text)) ≡ true) × (cause ≡ TextTooLong)
TextSays text (Err NoMemory) = ⊤

-- the answer is the column of the field, or the cause, or want of memory
abbrev pub ColumnAnswers : List ColumnDef → List ℕ → Result ColumnDef FieldFault → Type 0
ColumnAnswers earlier field (Ok column) = (header_cause earlier field ≡ None) × (column ≡ column_in field)
ColumnAnswers earlier field (Err (Bad cause)) = header_cause earlier field ≡ Some cause
ColumnAnswers earlier field (Err NoMemory) = ⊤
