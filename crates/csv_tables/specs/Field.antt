-- What a field means in a column, and why it has no meaning there.
use Rattle.std.specs.Prelude.{ℕ, ℤ, ◌==◌, ◌&&◌, nat_lt, Bool, true, not, List, length, map, codes, Option, Some, None, if◌then◌else◌}
use Rattle.std.specs.Char.{to_ascii_lowercase}
use Rattle.std.specs.Cmp.Lexicographic.{pointwise}
use Rattle.std.specs.Str.{chars, is_utf8, all_ascii_digits}
use Rattle.std.specs.Str.Parse.{signed_digits_value, without_leading_sign}
use Rattle.cal_value.specs.declared.interval.Interval.{Interval}
use Rattle.cal_value.specs.declared.limits.TheConstants.{TEXT_LIMIT}
use Rattle.cal_value.specs.Interval.{holds}
use Rattle.cal_value.specs.declared.kind.Kind.{Kind}
use Rattle.cal_value.specs.declared.kind.Kind.TheVariants.{Boolean, Integer, Text as TextKind}
use Rattle.cal_value.specs.declared.kind.SqlType.{SqlType}
use Rattle.cal_value.specs.declared.value.Value.{Value}
use Rattle.cal_value.specs.declared.value.Value.TheVariants.{Null, Bool as BoolValue, Int, Text}
use Rattle.csv_tables.specs.declared.fault.CsvCause.{CsvCause}
use Rattle.csv_tables.specs.declared.fault.CsvCause.TheVariants.{NotUtf8, BadBoolean, BadInteger, TextTooLong, NullValue}

abbrev pub is_empty : List ℕ → Bool
is_empty field = length field == 0

-- the field is this word, in any ASCII case
abbrev pub is_word : List ℕ → List ℕ → Bool
is_word field word = pointwise ◌==◌ (map to_ascii_lowercase field) word

abbrev pub is_boolean : List ℕ → Bool
is_boolean field = if is_word field (codes "true") then true else is_word field (codes "false")

-- one digit or more, after at most one sign
unfoldable pub is_number : List ℕ → Bool
is_number field = not (is_empty (without_leading_sign field)) && all_ascii_digits (without_leading_sign field)

-- the number of the sign and the digits
unfoldable pub number_of : List ℕ → ℤ
number_of field = signed_digits_value 10 field

-- a number of the interval
abbrev pub is_integer : Interval → List ℕ → Bool
is_integer interval field = is_number field && holds interval (number_of field)

-- an empty field is the empty text, and NULL in a column of another kind
abbrev pub value_of : Kind → List ℕ → Value
value_of TextKind field = Text (chars field)
value_of Boolean field = if is_empty field then Null else BoolValue (is_word field (codes "true"))
value_of Integer field = if is_empty field then Null else Int (number_of field)

abbrev pub null_cause : SqlType → Option CsvCause
null_cause t = if t.nullable then None else Some NullValue

abbrev pub typed_cause : Kind → SqlType → List ℕ → Option CsvCause
typed_cause TextKind t field = if nat_lt TEXT_LIMIT (length (chars field)) then Some TextTooLong else None
typed_cause Boolean t field = if is_empty field then null_cause t else if is_boolean field then None else Some BadBoolean
typed_cause Integer t field = if is_empty field then null_cause t else if is_integer t.interval field then None else Some BadInteger

-- why a field is no value of a column of this type
abbrev pub field_cause : SqlType → List ℕ → Option CsvCause
field_cause t field = if is_utf8 field then typed_cause t.kind t field else Some NotUtf8
