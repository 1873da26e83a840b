-- The types of aggregates.
use Rattle.std.specs.Prelude.{◌≡◌, ℕ, pos, ◌*ℤ◌, ◌<◌, ◌≤◌, min, max, true, false, Option, Some, None, List, length, All, IfSome, IsSome, if◌then◌else◌}
use Rattle.std.specs.Int.{int_min, int_max}
use Rattle.cal_value.specs.declared.interval.Interval.{Interval}
use Rattle.cal_value.specs.declared.interval.Interval.TheVariants.{Never, Range}
use Rattle.cal_value.specs.declared.kind.SqlType.{SqlType}
use Rattle.cal_value.specs.declared.operator.Agg.{Agg}
use Rattle.cal_value.specs.declared.operator.Agg.TheVariants.{Count, Sum, Sum0, Min, Max}
use Rattle.cal_value.specs.declared.value.Value.{Value}
use Rattle.cal_value.specs.Interval.{limit}
use Rattle.cal_value.specs.Types.{IsOfType, number_type, is_integer}

-- a bound past 10^38-1 counts as 10^38, which promises nothing
abbrev pub row_bound : ℕ → ℕ
row_bound n = min n limit

-- so many rows are promised by the bound
abbrev pub IsBounded : ℕ → ℕ → Type 0
IsBounded rows bound = bound < limit → rows ≤ bound

-- of counts of at most n rows
abbrev pub counts : ℕ → Interval
counts n = Range (pos 0) (pos (row_bound n))

-- of sums of at most n numbers, and of at least one
abbrev pub sums : ℕ → Interval → Interval
sums n Never = Never
sums n (Range lo hi) =
    let m = pos (max (row_bound n) 1) in Range (int_min lo (lo *ℤ m)) (int_max hi (hi *ℤ m))

abbrev pub with_zero : Interval → Interval
with_zero Never = Range (pos 0) (pos 0)
with_zero (Range lo hi) = Range (int_min lo (pos 0)) (int_max hi (pos 0))

-- over at most n values of the argument's type. COUNT alone has a type without one, as COUNT(*)
abbrev pub agg_type : Agg → Option SqlType → ℕ → Option SqlType
agg_type Count argument n = number_type false (counts n)
agg_type Sum (Some t) n = if is_integer t then number_type true (sums n t.interval) else None
agg_type Sum0 (Some t) n =
    if is_integer t then number_type false (with_zero (sums n t.interval)) else None
agg_type Min (Some t) n = Some (record t { nullable = true })
agg_type Max (Some t) n = Some (record t { nullable = true })
agg_type agg None n = None

-- each value is of the argument's type, where there is an argument
abbrev pub AreArguments : List Value → Option SqlType → Type 0
AreArguments vs argument = IfSome argument (λ t. All (λ v. IsOfType v t) vs)

-- the value is of each type that the aggregate has over types of the values
abbrev pub IsWellAggregated : Agg → List Value → Value → Type 0
IsWellAggregated agg vs v =
    (argument : Option SqlType) (u : SqlType) (n : ℕ) → AreArguments vs argument
    → IsBounded (length vs) n → agg_type agg argument n ≡ Some u → IsOfType v u

-- the values have a type over which the aggregate has one
pub record IsAggregable (agg : Agg) (vs : List Value) : Type 0 where
  pub argument : Option SqlType
  pub bound : ℕ
  pub of_type : AreArguments vs argument
  pub bounded : IsBounded (length vs) bound
  pub typed : IsSome (agg_type agg argument bound)
