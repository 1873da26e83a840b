-- Types whose numbers are numbers of SQL.
use Rattle.std.specs.Prelude.{◌≡◌, ℕ, true, List, Option, Some, All}
use Rattle.cal_value.specs.declared.kind.Kind.TheVariants.{Integer}
use Rattle.cal_value.specs.declared.kind.SqlType.{SqlType}
use Rattle.cal_value.specs.declared.value.Value.{Value}
use Rattle.cal_value.specs.declared.value.Value.TheVariants.{Null, Bool as BoolValue, Int, Text}
use Rattle.cal_value.specs.Interval.{is_in_range, is_number}
use Rattle.cal_schema.specs.declared.rel_type.RelType.{RelType}
use Rattle.cal_rel.specs.Info.{set_at}

-- the ends of an interval of numbers are numbers of SQL
abbrev pub IsInRange : SqlType → Type 0
IsInRange t = t.kind ≡ Integer → is_in_range t.interval ≡ true

-- so is each column of each set
pub record AreInRange (sets : List (Option RelType)) : Type 0 where
  pub each : (k : ℕ) (t : RelType) → set_at sets k ≡ Some t → All IsInRange t.columns

-- a number is one of SQL
abbrev pub IsSqlValue : Value → Type 0
IsSqlValue Null = Unit {0}
IsSqlValue (BoolValue b) = Unit {0}
IsSqlValue (Int n) = is_number n ≡ true
IsSqlValue (Text t) = Unit {0}
