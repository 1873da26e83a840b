-- The columns, rows and keys of a table.
use Rattle.std.specs.Prelude.{ℕ, ℤ, ◌+◌, ◌==◌, Bool, not, List, [], ◌∷◌, ◌++◌, length, nat_lt, if◌then◌else◌, slice_get, position, codes, Option, Some, None, option_map, Result, Ok, Err, ⊤}
use Rattle.std.specs.List.{list_any}
use Rattle.std.specs.Str.{chars}
use Rattle.std.specs.Fmt.{decimal}
use Rattle.serde_json.specs.Data.{Data, null, boolean, number, string, Items, no_items, item}
use Rattle.serde_json.specs.Find.{get, as_i64, as_str, as_array}
use Rattle.cal_value.specs.declared.interval.Interval.{Interval}
use Rattle.cal_value.specs.declared.limits.TheConstants.{COLUMN_LIMIT, TEXT_LIMIT}
use Rattle.cal_value.specs.declared.kind.Kind.{Kind}
use Rattle.cal_value.specs.declared.kind.Kind.TheVariants.{Boolean, Integer, Text as TextKind}
use Rattle.cal_value.specs.declared.value.Value.{Value}
use Rattle.cal_value.specs.declared.value.Value.TheVariants.{Null, Bool as BoolValue, Int, Text}
use Rattle.cal_value.specs.Equal.{row_eq}
use Rattle.cal_value.specs.Interval.{holds}
use Rattle.cal_value.specs.Logic.{is_null}
use Rattle.cal_value.specs.Order.{columns_of}
use Rattle.cal_schema.specs.declared.column.ColumnDef.{ColumnDef}
use Rattle.cal_schema.specs.declared.column.ColumnFault.{ColumnFault}
use Rattle.cal_schema.specs.declared.column.ColumnFault.TheVariants.{NameTooLong, BadColumn, NoMemory as NoMemoryFor}
use Rattle.cal_schema.specs.Column.{column_of}
use Rattle.cal_schema.specs.Lookup.{is_same_name}
use Rattle.model_fields.specs.declared.fault.ModelCause.TheVariants.{WrongKind, BadValue, Repeated, TooMany, NoSuchName, TextTooLong, NullValue, KeyTaken}
use Rattle.model_fields.specs.declared.fault.ModelFault.{ModelFault}
use Rattle.model_fields.specs.declared.fault.ModelFault.TheVariants.{NoMemory}
use Rattle.model_fields.specs.Reading.{◌>>=◌, bad, each, under}
use Rattle.model_fields.specs.Kinds.{of_kind, a_list, text, short, count}

-- ---- columns

abbrev pub is_column_named : List ℕ → ColumnDef → Bool
is_column_named name c = is_same_name c.name name

abbrev pub parsed : Result ColumnDef ColumnFault → Result ColumnDef ModelFault
parsed (Ok c) = Ok c
parsed (Err (NameTooLong limit)) = bad TextTooLong
parsed (Err BadColumn) = bad BadValue
parsed (Err NoMemoryFor) = Err NoMemory

abbrev pub differing : List ColumnDef → ColumnDef → Result ColumnDef ModelFault
differing before c = if list_any (is_column_named c.name) before then bad Repeated else Ok c

-- a text NAME:type, whose name differs from those before it
abbrev pub column : List ColumnDef → Data → Result ColumnDef ModelFault
column before d = (text d >>= λ s. parsed (column_of (chars s))) >>= differing before

-- 1 to 32 columns
abbrev pub column_list : Items → Result (List ColumnDef) ModelFault
column_list ds = if count ds == 0 then bad BadValue else if nat_lt COLUMN_LIMIT (count ds) then bad TooMany else each column ds

abbrev pub columns : Data → Result (List ColumnDef) ModelFault
columns d = a_list d >>= column_list

-- ---- rows

abbrev pub whole : Interval → Option ℤ → Result Value ModelFault
whole range None = bad BadValue
whole range (Some z) = if holds range z then Ok (Int z) else bad BadValue

abbrev pub short_cell : List ℕ → Result Value ModelFault
short_cell s = short TEXT_LIMIT s >>= λ t. Ok (Text (chars t))

-- a value of a column of this kind, where whole numbers are in the range
abbrev pub cell : Kind → Interval → Data → Result Value ModelFault
cell kind range null = Ok Null
cell Boolean range (boolean b) = Ok (BoolValue b)
cell Integer range (number n) = whole range (as_i64 n)
cell TextKind range (string s) = short_cell s
cell kind range d = bad WrongKind

abbrev pub cell_in : Option ColumnDef → Data → Result Value ModelFault
cell_in None d = bad BadValue
cell_in (Some c) d = cell c.kind.kind c.kind.interval d

-- the value in the column that comes after those before it
abbrev pub next_cell : List ColumnDef → List Value → Data → Result Value ModelFault
next_cell cs before d = cell_in (slice_get cs (length before)) d

abbrev pub cells : List ColumnDef → Items → Result (List Value) ModelFault
cells cs ds = if count ds == length cs then each (next_cell cs) ds else bad BadValue

-- as many values as columns
abbrev pub row_of : List ColumnDef → Data → Result (List Value) ModelFault
row_of cs d = a_list d >>= cells cs

abbrev pub row : List ColumnDef → List (List Value) → Data → Result (List Value) ModelFault
row cs before d = row_of cs d

abbrev pub row_list : List ColumnDef → ℕ → Items → Result (List (List Value)) ModelFault
row_list cs most ds = if nat_lt most (count ds) then bad TooMany else each (row cs) ds

-- at most so many rows
abbrev pub rows : List ColumnDef → ℕ → Data → Result (List (List Value)) ModelFault
rows cs most d = a_list d >>= row_list cs most

-- ---- the primary key

abbrev pub place_of : List ColumnDef → List ℕ → Option ℕ
place_of cs name = position (is_column_named name) cs

abbrev pub is_place : ℕ → ℕ → Bool
is_place k other = other == k

abbrev pub fresh_place : List ℕ → Option ℕ → Result ℕ ModelFault
fresh_place before None = bad NoSuchName
fresh_place before (Some k) = if list_any (is_place k) before then bad Repeated else Ok k

-- the place of a column of this name, which differs from those before it
abbrev pub key_column : List ColumnDef → List ℕ → Option (List ℕ) → Result ℕ ModelFault
key_column cs before o = (of_kind o >>= short TEXT_LIMIT) >>= λ s. fresh_place before (place_of cs (chars s))

abbrev pub key_after : List ColumnDef → List ℕ → List (Option (List ℕ)) → Result (List ℕ) ModelFault
key_after cs done [] = Ok done
key_after cs done (o ∷ os) = under (decimal (length done)) (key_column cs done o) >>= λ k. key_after cs (done ++ k ∷ []) os

-- different names of columns
abbrev pub key : List ColumnDef → Option (List (Option (List ℕ))) → Result (List ℕ) ModelFault
key cs o = of_kind o >>= key_after cs []

-- the key of a member, which may be absent
abbrev pub member_key : List ColumnDef → Option (Option (List (Option (List ℕ)))) → Result (List ℕ) ModelFault
member_key cs None = Ok []
member_key cs (Some o) = under (codes "primaryKey") (key cs o)

-- the items of a list, each as the text that it is, or none
abbrev pub texts_of : Items → List (Option (List ℕ))
texts_of no_items = []
texts_of (item d ds) = as_str d ∷ texts_of ds

-- a list as those texts; none where it is no list
abbrev pub listed : Data → Option (List (Option (List ℕ)))
listed d = option_map texts_of (as_array d)

-- the member of an operand
abbrev pub key_member : Data → Option (Option (List (Option (List ℕ))))
key_member operand = option_map listed (get (codes "primaryKey") operand)

-- the key of a table's operand
abbrev pub primary_key : List ColumnDef → Data → Result (List ℕ) ModelFault
primary_key cs operand = member_key cs (key_member operand)

-- NULL may stand in a column unless it is one of the key
abbrev pub keyed_column : List ℕ → ℕ → ColumnDef → ColumnDef
keyed_column ks n c = record { name = c.name; kind = record { kind = c.kind.kind; nullable = not (list_any (is_place n) ks); interval = c.kind.interval } }

abbrev pub keyed_from : List ℕ → ℕ → List ColumnDef → List ColumnDef
keyed_from ks n [] = []
keyed_from ks n (c ∷ cs) = keyed_column ks n c ∷ keyed_from ks (n + 1) cs

-- the columns, where the key is this one
abbrev pub keyed : List ℕ → List ColumnDef → List ColumnDef
keyed ks cs = keyed_from ks 0 cs

-- ---- the keys of rows

-- the keys with that of one more row
abbrev pub with_key : List (List Value) → List Value → Result (List (List Value)) ModelFault
with_key before k = if list_any is_null k then bad NullValue else if list_any (row_eq k) before then bad KeyTaken else Ok (before ++ k ∷ [])

abbrev pub row_key_added : List ℕ → ℕ → List (List Value) → List Value → Result (List (List Value)) ModelFault
row_key_added ks n before r = under (decimal n) (with_key before (columns_of r ks))

-- the rows in order, each judged by the keys of those before it
abbrev pub keys_from : List ℕ → ℕ → List (List Value) → List (List Value) → Result ⊤ ModelFault
keys_from ks n before [] = Ok tt
keys_from ks n before (r ∷ rs) = row_key_added ks n before r >>= λ keys. keys_from ks (n + 1) keys rs

-- no row has NULL in its key, and none the key of an earlier row, where there is a key
abbrev pub keys_apart : List ℕ → List (List Value) → Result ⊤ ModelFault
keys_apart [] rs = Ok tt
keys_apart (k ∷ ks) rs = keys_from (k ∷ ks) 0 [] rs
