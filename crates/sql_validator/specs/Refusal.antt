-- Why a statement is refused: the first cause that holds.
use Rattle.std.specs.Prelude.{ℕ, ◌+◌, ◌==◌, ◌&&◌, Bool, List, [], ◌∷◌, length, Option, Some, None, option_map, if◌then◌else◌}
use Rattle.std.specs.Option.{is_none, option_or}
use Rattle.cal_value.specs.declared.kind.Kind.TheVariants.{Boolean, Text as TextKind}
use Rattle.cal_value.specs.declared.kind.SqlType.{SqlType}
use Rattle.cal_value.specs.declared.value.Value.{Value}
use Rattle.cal_value.specs.declared.value.Value.TheVariants.{Null, Bool as BoolValue, Int, Text}
use Rattle.cal_value.specs.Interval.{holds}
use Rattle.cal_value.specs.Types.{is_integer, same_kind}
use Rattle.cal_schema.specs.declared.refusal.Refusal.{Refusal}
use Rattle.cal_schema.specs.declared.refusal.Refusal.TheVariants.{UnknownTable, UnknownLattice, BadRow, NotRefreshable}
use Rattle.cal_schema.specs.declared.schema.Schema.{Schema}
use Rattle.cal_schema.specs.declared.table.AdapterKind.{AdapterKind}
use Rattle.cal_schema.specs.declared.table.AdapterKind.TheVariants.{Csv, Mem}
use Rattle.cal_schema.specs.Fits.{types_of}
use Rattle.sql_tree.specs.declared.select.TableName.{TableName}
use Rattle.sql_tree.specs.declared.statement.Statement.{Statement}
use Rattle.sql_tree.specs.declared.statement.Statement.TheVariants.{Select as SelectOf, ExplainPlan, ExplainMemo, Insert, Refresh, CreateTile, DropTile, ChooseTiles}
use Rattle.sql_meaning.specs.Refused.{first_of, refusal_of, table_name}
use Rattle.sql_meaning.specs.Scope.{number_of, table_of}

abbrev pub no_such_table : Schema → TableName → Option Refusal
no_such_table schema table = if is_none (number_of schema table) then Some (UnknownTable (table_name table)) else None

-- ---- rows of VALUES

-- the value is one of the column's kind, in its range, and NULL only where the column takes it
abbrev pub is_of_type : SqlType → Value → Bool
is_of_type t Null = t.nullable
is_of_type t (BoolValue b) = same_kind t.kind Boolean
is_of_type t (Int n) = is_integer t && holds t.interval n
is_of_type t (Text s) = same_kind t.kind TextKind

-- the first column from this one on that doesn't take its value
abbrev pub bad_column : ℕ → List SqlType → List Value → Option ℕ
bad_column at [] vs = None
bad_column at (t ∷ ts) [] = None
bad_column at (t ∷ ts) (v ∷ vs) = if is_of_type t v then bad_column (at + 1) ts vs else Some at

-- column 0 is told where the row has another number of values
abbrev pub row_fault : List SqlType → List Value → Option ℕ
row_fault types row = if length row == length types then bad_column 1 types row else Some 0

-- the first row from this one on that isn't one of the table
abbrev pub bad_row : ℕ → List SqlType → List (List Value) → Option Refusal
bad_row at types [] = None
bad_row at types (row ∷ rows) = option_or (option_map (BadRow at) (row_fault types row)) (bad_row (at + 1) types rows)

-- rows and columns are counted from 1
abbrev pub insert_refusal : Schema → TableName → List (List Value) → Option Refusal
insert_refusal schema table rows = first_of (no_such_table schema table ∷ bad_row 1 (types_of (table_of schema table)) rows ∷ [])

-- ---- REFRESH

abbrev pub not_refreshable : AdapterKind → Option Refusal
not_refreshable Csv = None
not_refreshable Mem = Some NotRefreshable

abbrev pub refresh_refusal : Schema → TableName → Option Refusal
refresh_refusal schema table = first_of (no_such_table schema table ∷ not_refreshable (table_of schema table).adapter ∷ [])

-- ---- any statement

-- a schema has no lattices yet
abbrev pub unknown_lattice : TableName → Option Refusal
unknown_lattice lattice = Some (UnknownLattice (table_name lattice))

-- how many tokens stand before SELECT in EXPLAIN PLAN FOR and EXPLAIN MEMO FOR
abbrev pub explain_tokens : ℕ
explain_tokens = 3

abbrev pub refusal_in : Schema → Statement → Option Refusal
refusal_in schema (SelectOf select) = refusal_of schema 0 select
refusal_in schema (ExplainPlan select) = refusal_of schema explain_tokens select
refusal_in schema (ExplainMemo select) = refusal_of schema explain_tokens select
refusal_in schema (Insert table rows) = insert_refusal schema table rows
refusal_in schema (Refresh table) = refresh_refusal schema table
refusal_in schema (CreateTile tile) = unknown_lattice tile.lattice
refusal_in schema (DropTile tile) = unknown_lattice tile.lattice
refusal_in schema (ChooseTiles lattice limit) = unknown_lattice lattice
