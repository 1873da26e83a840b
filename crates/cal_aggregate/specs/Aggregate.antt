-- Aggregates: folds over a list of values in which NULL is skipped.
use Rattle.std.specs.Prelude.{◌≡◌, ◌≢◌, ℤ, pos, ◌+ℤ◌, Option, Some, None, List, [], ◌∷◌, fold, All, if◌then◌else◌}
use Rattle.std.specs.List.{filter_map, Contains}
use Rattle.std.specs.Ordering.{is_lt}
use Rattle.std.specs.declared.cmp.Ordering.TheVariants.{Less}
use Rattle.cal_value.specs.declared.operator.Agg.{Agg}
use Rattle.cal_value.specs.declared.operator.Agg.TheVariants.{Count, Sum, Sum0, Min, Max}
use Rattle.cal_value.specs.declared.value.Value.{Value}
use Rattle.cal_value.specs.declared.value.Value.TheVariants.{Null, Bool as BoolValue, Int, Text}
use Rattle.cal_value.specs.Order.{value_cmp}

-- over no value
abbrev pub start : Agg → Value
start Count = Int (pos 0)
start Sum = Null
start Sum0 = Int (pos 0)
start Min = Null
start Max = Null

-- a number more. What is no number adds nothing
abbrev pub plus : Value → Value → Value
plus Null (Int y) = Int y
plus (Int x) (Int y) = Int (x +ℤ y)
plus a b = a

abbrev pub lesser : Value → Value → Value
lesser Null b = b
lesser a b = if is_lt (value_cmp b a) then b else a

abbrev pub greater : Value → Value → Value
greater Null b = b
greater a b = if is_lt (value_cmp a b) then b else a

-- with one value more, which is skipped where it is NULL
abbrev pub combined : Agg → Value → Value → Value
combined agg so_far Null = so_far
combined Count so_far v = plus so_far (Int (pos 1))
combined Sum so_far v = plus so_far v
combined Sum0 so_far v = plus so_far v
combined Min so_far v = lesser so_far v
combined Max so_far v = greater so_far v

abbrev pub aggregated : Agg → List Value → Value
aggregated agg vs = fold (combined agg) (start agg) vs

-- the aggregate of aggregates of parts that is the aggregate of the whole
abbrev pub rolled : Agg → Agg
rolled Count = Sum0
rolled Sum = Sum
rolled Sum0 = Sum0
rolled Min = Min
rolled Max = Max

-- ---- the same in other words

-- the numbers among the values
abbrev pub number_of : Value → Option ℤ
number_of Null = None
number_of (BoolValue b) = None
number_of (Int n) = Some n
number_of (Text t) = None

abbrev pub numbers : List Value → List ℤ
numbers vs = filter_map number_of vs

-- their sum, and NULL where there is none
abbrev pub sum_of : List ℤ → Value
sum_of [] = Null
sum_of (n ∷ ns) = Int (fold ◌+ℤ◌ n ns)

-- one of the values, not NULL, and no value that isn't NULL is less
pub record IsLeast (vs : List Value) (v : Value) : Type 0 where
  pub known : v ≢ Null
  pub among : Contains vs v
  pub least : All (λ w. w ≢ Null → value_cmp w v ≢ Less) vs

-- one of the values, not NULL, and no value that isn't NULL is greater
pub record IsGreatest (vs : List Value) (v : Value) : Type 0 where
  pub known : v ≢ Null
  pub among : Contains vs v
  pub greatest : All (λ w. w ≢ Null → value_cmp v w ≢ Less) vs

-- NULL where each value is NULL, else the least of the others
abbrev pub IsMin : List Value → Value → Type 0
IsMin vs Null = All (λ w. w ≡ Null) vs
IsMin vs v = IsLeast vs v

-- NULL where each value is NULL, else the greatest of the others
abbrev pub IsMax : List Value → Value → Type 0
IsMax vs Null = All (λ w. w ≡ Null) vs
IsMax vs v = IsGreatest vs v
