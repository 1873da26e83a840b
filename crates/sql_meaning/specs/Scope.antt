-- What the names of a SELECT stand for: entries of FROM, tables and columns.
use Rattle.std.specs.Prelude.{ℕ, ◌+◌, Bool, true, false, not, List, [], ◌∷◌, length, map, position, count_by, is_some, Option, Some, None, option_map, option_and_then, unwrap_or, slice_get, if◌then◌else◌}
use Rattle.std.specs.List.{list_any, flat_map}
use Rattle.cal_value.specs.declared.kind.SqlType.{SqlType}
use Rattle.cal_schema.specs.declared.column.ColumnDef.{ColumnDef}
use Rattle.cal_schema.specs.declared.schema.Schema.{Schema}
use Rattle.cal_schema.specs.declared.table.AdapterKind.TheVariants.{Mem}
use Rattle.cal_schema.specs.declared.table.TableDef.{TableDef}
use Rattle.cal_schema.specs.Lookup.{is_same_name, table_named}
use Rattle.sql_tree.specs.declared.select.Cond.{Cond}
use Rattle.sql_tree.specs.declared.select.Cond.TheVariants.{On, Using}
use Rattle.sql_tree.specs.declared.select.FromEntry.{FromEntry}
use Rattle.sql_tree.specs.declared.select.How.{How}
use Rattle.sql_tree.specs.declared.select.How.TheVariants.{First, Cross, Inner, Left}
use Rattle.sql_tree.specs.declared.select.Select.{Select}
use Rattle.sql_tree.specs.declared.select.TableName.{TableName}
use Rattle.sql_tree.specs.declared.tree.ColumnName.{ColumnName}

-- an entry of FROM as names see it: with its table
pub record Header : Type 0 where
  pub entry : FromEntry
  pub table : TableDef

abbrev pub number_of : Schema → TableName → Option ℕ
number_of schema table = table_named schema table.schema table.name

-- what stands for a table that isn't there
abbrev pub no_table : TableDef
no_table = record { schema = []; name = []; columns = []; adapter = Mem; file = []; max_rows = 0; primary_key = [] }

abbrev pub table_of : Schema → TableName → TableDef
table_of schema table = unwrap_or (option_and_then (slice_get schema.tables) (number_of schema table)) no_table

-- an entry over this table
abbrev pub header : FromEntry → TableDef → Header
header entry table = record { entry = entry; table = table }

abbrev pub header_of : Schema → FromEntry → Header
header_of schema entry = header entry (table_of schema entry.table)

-- the entries of FROM from left to right
abbrev pub scope_of : Schema → Select → List Header
scope_of schema select = map (header_of schema) select.from

abbrev pub names_used : Cond → List (List ℕ)
names_used (On tree) = []
names_used (Using names) = map (λ name. name.name) names

-- the columns that the entry's own USING names
abbrev pub hidden_by : How → List (List ℕ)
hidden_by First = []
hidden_by Cross = []
hidden_by (Inner cond) = names_used cond
hidden_by (Left cond) = names_used cond

abbrev pub is_among : List ℕ → List (List ℕ) → Bool
is_among name names = list_any (is_same_name name) names

-- the name may be that of a column of the entry: its alias is written, or else the entry's USING doesn't name the column
abbrev pub is_searched : Header → ColumnName → Bool
is_searched h c = unwrap_or (option_map (is_same_name h.entry.alias) c.alias) (not (is_among c.name (hidden_by h.entry.how)))

-- the place of the column in the entry, counted from 0
abbrev pub place_in : Header → ColumnName → Option ℕ
place_in h c = if is_searched h c then position (λ d. is_same_name d.name c.name) h.table.columns else None

-- how many entries have the column
abbrev pub homes : List Header → ColumnName → ℕ
homes hs c = count_by (λ h. is_some (place_in h c)) hs

-- the place of the column among the columns of all entries, which is in the first entry that has it
abbrev pub place_of : List Header → ColumnName → Option ℕ
place_of [] c = None
place_of (h ∷ hs) c = unwrap_or (option_map Some (place_in h c)) (option_map (λ at. length h.table.columns + at) (place_of hs c))

-- behind a LEFT JOIN each column may be NULL
abbrev pub is_padded : How → Bool
is_padded First = false
is_padded Cross = false
is_padded (Inner cond) = false
is_padded (Left cond) = true

abbrev pub nullable : SqlType → SqlType
nullable t = record t { nullable = true }

abbrev pub type_of_column : Header → ColumnDef → SqlType
type_of_column h c = if is_padded h.entry.how then nullable c.kind else c.kind

-- the types of all columns
abbrev pub types_in : List Header → List SqlType
types_in hs = flat_map (λ h. map (type_of_column h) h.table.columns) hs

-- the type of the column
abbrev pub type_in : List Header → ColumnName → Option SqlType
type_in hs c = option_and_then (slice_get (types_in hs)) (place_of hs c)

-- the place of the column among the columns of all entries, and the place past the end where none has it
abbrev pub column_at : List Header → ColumnName → ℕ
column_at hs c = unwrap_or (place_of hs c) (length (types_in hs))
