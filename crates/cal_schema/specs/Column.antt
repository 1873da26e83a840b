-- The types of columns, and how a text names a column.
use Rattle.std.specs.Prelude.{◌≡◌, ℕ, pos, neg_ℤ, ◌-◌, ◌==◌, nat_lt, Bool, true, not, List, length, take, drop, codes, Option, Some, None, Result, Ok, Err, if◌then◌else◌, ⊤}
use Rattle.std.specs.List.{suffix_len}
use Rattle.std.specs.Cmp.Lexicographic.{pointwise}
use Rattle.cal_value.specs.declared.interval.Interval.TheVariants.{Range}
use Rattle.cal_value.specs.declared.limits.TheConstants.{NAME_LIMIT}
use Rattle.cal_value.specs.declared.kind.SqlType.{SqlType}
use Rattle.cal_value.specs.Types.{boolean_type, integer_type, text_type}
use Rattle.cal_schema.specs.declared.column.ColumnDef.{ColumnDef}
use Rattle.cal_schema.specs.declared.column.ColumnFault.{ColumnFault}
use Rattle.cal_schema.specs.declared.column.ColumnFault.TheVariants.{NameTooLong, BadColumn, NoMemory}

-- the signed numbers of 16, 32 and 64 bits, and NULL
abbrev pub short_type : SqlType
short_type = integer_type true (Range (neg_ℤ (pos 32768)) (pos 32767))

abbrev pub int_type : SqlType
int_type = integer_type true (Range (neg_ℤ (pos 2147483648)) (pos 2147483647))

abbrev pub long_type : SqlType
long_type = integer_type true (Range (neg_ℤ (pos 9223372036854775808)) (pos 9223372036854775807))

-- the text is this word
abbrev pub is_word : List ℕ → List ℕ → Bool
is_word text word = pointwise ◌==◌ text word

-- the type of a word, with NULL
abbrev pub type_named : List ℕ → Option SqlType
type_named word =
    if is_word word (codes "string") then Some (text_type true)
    else if is_word word (codes "boolean") then Some (boolean_type true)
    else if is_word word (codes "short") then Some short_type
    else if is_word word (codes "int") then Some int_type
    else if is_word word (codes "long") then Some long_type
    else None

-- how many characters stand before what follows the last colon: 0 where there is no colon
abbrev pub divided_at : List ℕ → ℕ
divided_at text = length text - suffix_len (λ c. not (c == 58)) text

-- what stands before the last colon, or all
abbrev pub name_part : List ℕ → List ℕ
name_part text = if divided_at text == 0 then text else take (divided_at text - 1) text

-- the word after the last colon; a name without a colon is that of texts
abbrev pub word_part : List ℕ → List ℕ
word_part text = if divided_at text == 0 then codes "string" else drop (divided_at text) text

abbrev pub typed_column : List ℕ → Option SqlType → Result ColumnDef ColumnFault
typed_column name None = Err BadColumn
typed_column name (Some kind) = Ok (record { name = name; kind = kind })

-- the column of a text NAME:type, or why it names none
abbrev pub column_of : List ℕ → Result ColumnDef ColumnFault
column_of text =
    if nat_lt NAME_LIMIT (length (name_part text)) then Err (NameTooLong NAME_LIMIT)
    else if length (name_part text) == 0 then Err BadColumn
    else typed_column (name_part text) (type_named (word_part text))

-- the answer is the column or the fault of the text, or want of memory
abbrev pub ColumnSays : List ℕ → Result ColumnDef ColumnFault → Type 0
ColumnSays text (Ok column) = column_of text ≡ Ok column
ColumnSays text (Err (NameTooLong limit)) = column_of text ≡ Err (NameTooLong limit)
ColumnSays text (Err BadColumn) = column_of text ≡ Err BadColumn
ColumnSays text (Err NoMemory) = ⊤
