-- The tables of the entries of FROM: words of private contracts.
use Rattle.std.specs.Prelude.{◌≡◌, ℕ, List, map, find, Option, Some, option_map}
use Rattle.cal_schema.specs.declared.refusal.Refusal.{Refusal}
use Rattle.cal_schema.specs.declared.refusal.Refusal.TheVariants.{UnknownTable}
use Rattle.cal_schema.specs.declared.schema.Schema.{Schema}
use Rattle.sql_tree.specs.declared.select.FromEntry.{FromEntry}
use Rattle.sql_meaning.specs.Refused.{is_unknown_table, table_name}
use Rattle.sql_meaning.specs.Scope.{number_of}

abbrev pub first_unknown : Schema → List FromEntry → Option Refusal
first_unknown schema from = option_map (λ e. UnknownTable (table_name e.table)) (find (is_unknown_table schema) from)

-- each entry's table has its number
abbrev pub AreNumbered : Schema → List FromEntry → List ℕ → Type 0
AreNumbered schema from numbers = map Some numbers ≡ map (λ entry. number_of schema entry.table) from
