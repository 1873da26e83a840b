-- Rows of the entries of FROM whose values are of the types of their columns.
use Rattle.std.specs.Prelude.{◌≡◌, List, map, All}
use Rattle.cal_value.specs.Types.{HasTypes}
use Rattle.sql_meaning.specs.Scope.{Header, type_of_column}
use Rattle.sql_meaning.specs.Value.{EntryRow}

-- the entry's row has a value for each of its columns, of the column's type
abbrev pub IsFilled : EntryRow → Type 0
IsFilled b = HasTypes b.row (map (type_of_column b.header) b.header.table.columns)

-- a row of each of these entries
pub record IsTypedRow (scope : List Header) (env : List EntryRow) : Type 0 where
  pub headers : map (λ b. b.header) env ≡ scope
  pub filled : All IsFilled env
