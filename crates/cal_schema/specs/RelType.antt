-- What the type of rows is true of, which of two is the narrower one, and what both of two say.
use Rattle.std.specs.Prelude.{◌<◌, ◌≤◌, min, List, [], ◌∷◌, map, length, All}
use Rattle.cal_value.specs.declared.kind.Kind.{Kind}
use Rattle.cal_value.specs.declared.kind.SqlType.{SqlType}
use Rattle.cal_value.specs.declared.value.Value.{Value}
use Rattle.cal_value.specs.Interval.{limit}
use Rattle.cal_value.specs.Types.{HasTypes, AreAtMostAsWide, met_type}
use Rattle.cal_schema.specs.declared.rel_type.RelType.{RelType}

-- each row has a value of the type in each column, and there are no more rows than the bound promises
pub record IsTrueOf (t : RelType) (rows : List (List Value)) : Type 0 where
  pub typed : All (λ row. HasTypes row t.columns) rows
  pub few : t.bound < limit → length rows ≤ t.bound

-- so many columns, each at most as wide as the one in its place, and no greater bound
pub record IsWithin (s t : RelType) : Type 0 where
  pub columns : AreAtMostAsWide s.columns t.columns
  pub bound : s.bound ≤ t.bound

-- the kind of each column
abbrev pub kinds_of : List SqlType → List Kind
kinds_of columns = map (λ column. column.kind) columns

-- what both say, of as many columns of the same kinds
abbrev pub met_columns : List SqlType → List SqlType → List SqlType
met_columns [] ts = []
met_columns (s ∷ ss) [] = []
met_columns (s ∷ ss) (t ∷ ts) = met_type s t ∷ met_columns ss ts

abbrev pub met_rel_type : RelType → RelType → RelType
met_rel_type s t = record { columns = met_columns s.columns t.columns; bound = min s.bound t.bound }

-- it is at most as wide as both, and whatever is so is at most as wide as it
pub record IsRelTypeMeet (s t m : RelType) : Type 0 where
  pub first : IsWithin m s
  pub second : IsWithin m t
  pub greatest : (u : RelType) → IsWithin u s → IsWithin u t → IsWithin u m
