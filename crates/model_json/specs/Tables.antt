-- The tables of a schema.
use Rattle.std.specs.Prelude.{ℕ, ◌&&◌, ◌+◌, Bool, List, [], length, nat_lt, nat_le, if◌then◌else◌, codes, Option, Some, None, Result, Ok}
use Rattle.std.specs.List.{list_any}
use Rattle.std.specs.Str.{bytes_eq, chars}
use Rattle.serde_json.specs.Data.{Data, Items}
use Rattle.serde_json.specs.Find.{as_number, as_u64}
use Rattle.cal_value.specs.declared.limits.TheConstants.{ROW_LIMIT, TABLE_LIMIT}
use Rattle.cal_value.specs.declared.value.Value.{Value}
use Rattle.cal_schema.specs.declared.column.ColumnDef.{ColumnDef}
use Rattle.cal_schema.specs.declared.table.AdapterKind.{AdapterKind}
use Rattle.cal_schema.specs.declared.table.AdapterKind.TheVariants.{Csv, Mem}
use Rattle.cal_schema.specs.File.{is_compressed}
use Rattle.cal_schema.specs.Lookup.{is_same_name}
use Rattle.model_json.specs.declared.draft.Contents.{Contents}
use Rattle.model_json.specs.declared.draft.Draft.{Draft}
use Rattle.model_fields.specs.declared.fault.ModelCause.TheVariants.{BadValue, Repeated, TooMany, Compressed}
use Rattle.model_fields.specs.declared.fault.ModelFault.{ModelFault}
use Rattle.model_fields.specs.Reading.{◌>>=◌, bad, each, field, optional, under}
use Rattle.model_fields.specs.Kinds.{of_kind, a_list, an_object, text, name, word, count}
use Rattle.model_fields.specs.Rows.{columns, rows, key_member, primary_key, keyed, keys_apart}

-- ---- operands

-- the name of a file, which isn't compressed
abbrev pub file : Data → Result (List ℕ) ModelFault
file d = text d >>= λ s. if is_compressed (chars s) then bad Compressed else Ok (chars s)

abbrev pub file_at : Data → Result (List ℕ) ModelFault
file_at operand = field (codes "file") file operand

abbrev pub row_limit : Option ℕ → Result ℕ ModelFault
row_limit None = bad BadValue
row_limit (Some n) = if nat_le 1 n && nat_le n ROW_LIMIT then Ok n else bad BadValue

-- 1 to 2^20
abbrev pub max_rows : Data → Result ℕ ModelFault
max_rows d = of_kind (as_number d) >>= λ n. row_limit (as_u64 n)

abbrev pub most_rows : Data → Result ℕ ModelFault
most_rows operand = optional (codes "maxRows") ROW_LIMIT max_rows operand

-- the operand of a table that is read from a file; the member of its primary key waits for the file's header
abbrev pub csv_operand : Data → Result Contents ModelFault
csv_operand operand = do
  name ← file_at operand
  most ← most_rows operand
  Ok (record { file = name; max_rows = most; columns = []; primary_key = []; key = key_member operand; rows = None })

abbrev pub columns_at : Data → Result (List ColumnDef) ModelFault
columns_at operand = field (codes "columns") columns operand

abbrev pub rows_at : List ColumnDef → ℕ → Data → Result (List (List Value)) ModelFault
rows_at cs most operand = field (codes "rows") (rows cs most) operand

-- the key, over which the rows are apart
abbrev pub row_key : List ColumnDef → List (List Value) → Data → Result (List ℕ) ModelFault
row_key cs rs operand = do
  ks ← primary_key cs operand
  _ ← under (codes "rows") (keys_apart ks rs)
  Ok ks

-- the operand of a table whose rows stand in the model
abbrev pub mem_operand : Data → Result Contents ModelFault
mem_operand operand = do
  most ← most_rows operand
  cs ← columns_at operand
  rs ← rows_at cs most operand
  ks ← row_key cs rs operand
  Ok (record { file = []; max_rows = most; columns = keyed ks cs; primary_key = ks; key = None; rows = Some rs })

abbrev pub contents_of : AdapterKind → Data → Result Contents ModelFault
contents_of Csv operand = csv_operand operand
contents_of Mem operand = mem_operand operand

abbrev pub operand : AdapterKind → Data → Result Contents ModelFault
operand adapter d = an_object d >>= contents_of adapter

abbrev pub operand_at : AdapterKind → Data → Result Contents ModelFault
operand_at adapter table = field (codes "operand") (operand adapter) table

-- ---- tables

abbrev pub is_draft_named : List ℕ → Draft → Bool
is_draft_named name t = is_same_name t.table.name name

-- a name that no table before it has
abbrev pub table_name : List Draft → Data → Result (List ℕ) ModelFault
table_name before d = name d >>= λ s. if list_any (is_draft_named (chars s)) before then bad Repeated else Ok (chars s)

abbrev pub name_at : List Draft → Data → Result (List ℕ) ModelFault
name_at before table = field (codes "name") (table_name before) table

abbrev pub factory_of : List ℕ → Result AdapterKind ModelFault
factory_of s =
    if bytes_eq s (codes "org.apache.calcite.adapter.csv.CsvTableFactory") then Ok Csv
    else if bytes_eq s (codes "cal.MemTableFactory") then Ok Mem
    else bad BadValue

abbrev pub factory : Data → Result AdapterKind ModelFault
factory d = text d >>= factory_of

abbrev pub factory_at : Data → Result AdapterKind ModelFault
factory_at table = field (codes "factory") factory table

abbrev pub draft_of : ℕ → List ℕ → ℕ → List ℕ → AdapterKind → Contents → Draft
draft_of schema_at schema table_at name adapter contents = record {
  schema_at = schema_at;
  table_at = table_at;
  table = record { schema = schema; name = name; columns = contents.columns; adapter = adapter; file = contents.file; max_rows = contents.max_rows; primary_key = contents.primary_key };
  key = contents.key;
  rows = contents.rows;
}

-- a table of a schema, after those before it
abbrev pub table : ℕ → List ℕ → List Draft → Data → Result Draft ModelFault
table schema_at schema before d = do
  t ← an_object d
  name ← name_at before t
  _ ← optional (codes "type") tt (word (codes "custom")) t
  adapter ← factory_at t
  contents ← operand_at adapter t
  Ok (draft_of schema_at schema (length before) name adapter contents)

abbrev pub table_list : ℕ → List ℕ → ℕ → Items → Result (List Draft) ModelFault
table_list schema_at schema before ds = if nat_lt TABLE_LIMIT (before + count ds) then bad TooMany else each (table schema_at schema) ds

-- at most 64 tables, with those of the schemas before
abbrev pub tables : ℕ → List ℕ → ℕ → Data → Result (List Draft) ModelFault
tables schema_at schema before d = a_list d >>= table_list schema_at schema before
