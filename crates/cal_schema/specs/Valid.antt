-- Which schemas are valid.
use Rattle.std.specs.Prelude.{◌≡◌, ◌≢◌, ◌<◌, ◌≤◌, ◌↔◌, ℕ, true, List, length, All, AllPairs, Contains, IfSome, Some, slice_get}
use Rattle.cal_value.specs.declared.kind.SqlType.{SqlType}
use Rattle.cal_value.specs.declared.limits.TheConstants.{COLUMN_LIMIT, NAME_LIMIT, ROW_LIMIT, TABLE_LIMIT, TEXT_LIMIT}
use Rattle.cal_schema.specs.declared.column.ColumnDef.{ColumnDef}
use Rattle.cal_schema.specs.declared.table.TableDef.{TableDef}
use Rattle.cal_schema.specs.declared.schema.Schema.{Schema}
use Rattle.cal_schema.specs.Column.{type_named}
use Rattle.cal_schema.specs.File.{IsFileOf}

-- up to NULL one of the types that have a word
abbrev pub IsColumnType : SqlType → Type 0
IsColumnType t = (word : List ℕ) × (type_named word ≡ Some (record t { nullable = true }))

-- the columns that a header names: NULL may stand in each of them
pub record IsHeader (columns : List ColumnDef) : Type 0 where
  pub some_columns : 0 < length columns
  pub few_columns : length columns ≤ COLUMN_LIMIT
  pub columns_named : All (λ c. 0 < length c.name) columns
  pub columns_short : All (λ c. length c.name ≤ NAME_LIMIT) columns
  pub columns_apart : AllPairs (λ a b. a.name ≢ b.name) columns
  pub typed : All (λ c. IsColumnType c.kind) columns
  pub nullable : All (λ c. c.kind.nullable ≡ true) columns

-- NULL may stand exactly in the columns outside the primary key
abbrev pub HasNullsOutsideKey : TableDef → Type 0
HasNullsOutsideKey table = (k : ℕ) (c : ColumnDef) → slice_get table.columns k ≡ Some c → (c.kind.nullable ≡ true) ↔ (¬ Contains table.primary_key k)

pub record IsValidTable (table : TableDef) : Type 0 where
  pub schema_short : length table.schema ≤ NAME_LIMIT
  pub name_short : length table.name ≤ NAME_LIMIT
  pub some_columns : 0 < length table.columns
  pub few_columns : length table.columns ≤ COLUMN_LIMIT
  pub columns_named : All (λ c. 0 < length c.name) table.columns
  pub columns_short : All (λ c. length c.name ≤ NAME_LIMIT) table.columns
  pub columns_apart : AllPairs (λ a b. a.name ≢ b.name) table.columns
  pub typed : All (λ c. IsColumnType c.kind) table.columns
  pub nulls : HasNullsOutsideKey table
  pub file_short : length table.file ≤ TEXT_LIMIT
  pub file_there : IsFileOf table.adapter table.file
  pub some_rows : 0 < table.max_rows
  pub few_rows : table.max_rows ≤ ROW_LIMIT
  pub key_there : All (λ k. k < length table.columns) table.primary_key
  pub key_apart : AllPairs (λ a b. a ≢ b) table.primary_key

-- two tables of one schema have two names
abbrev pub HaveTwoNames : TableDef → TableDef → Type 0
HaveTwoNames a b = a.schema ≡ b.schema → a.name ≢ b.name

pub record IsValidSchema (schema : Schema) : Type 0 where
  pub default_short : IfSome schema.default_schema (λ name. length name ≤ NAME_LIMIT)
  pub few_tables : length schema.tables ≤ TABLE_LIMIT
  pub tables : All IsValidTable schema.tables
  pub apart : AllPairs HaveTwoNames schema.tables
