-- How tables are found by their names.
use Rattle.std.specs.Prelude.{ℕ, ◌==◌, ◌&&◌, Bool, false, List, Option, Some, None, position}
use Rattle.std.specs.Cmp.Lexicographic.{pointwise}
use Rattle.cal_schema.specs.declared.table.TableDef.{TableDef}
use Rattle.cal_schema.specs.declared.schema.Schema.{Schema}

-- names are compared as written
abbrev pub is_same_name : List ℕ → List ℕ → Bool
is_same_name a b = pointwise ◌==◌ a b

-- the table is one of this schema, where there is one
abbrev pub is_of : Option (List ℕ) → TableDef → Bool
is_of None table = false
is_of (Some schema) table = is_same_name table.schema schema

-- the table is one of the schema that is written, or else of the default one
abbrev pub is_in : Schema → Option (List ℕ) → TableDef → Bool
is_in s (Some written) table = is_of (Some written) table
is_in s None table = is_of s.default_schema table

abbrev pub is_named : Schema → Option (List ℕ) → List ℕ → TableDef → Bool
is_named s schema name table = is_same_name table.name name && is_in s schema table

-- the number of the table of this name
abbrev pub table_named : Schema → Option (List ℕ) → List ℕ → Option ℕ
table_named s schema name = position (is_named s schema name) s.tables
