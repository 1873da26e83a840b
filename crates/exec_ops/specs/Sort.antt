-- Rows in order.
use Rattle.std.specs.Prelude.{ℕ, false, List, map}
use Rattle.std.specs.declared.cmp.Ordering.{Ordering}
use Rattle.cal_value.specs.declared.order.KeyOrder.{KeyOrder}
use Rattle.cal_value.specs.declared.value.Value.{Value}
use Rattle.cal_value.specs.Order.{IsInOrder, key_cmp}
use Rattle.exec_ops.specs.Join.{Row}

-- the ascending order of a column, in which NULL stands after each other value
abbrev pub ascending : ℕ → KeyOrder
ascending column = record { column = column; descending = false; nulls_first = false }

-- that order of two values
abbrev pub ascending_cmp : Value → Value → Ordering
ascending_cmp a b = key_cmp (ascending 0) a b

-- by the first of these columns, among equals by the second, and so on
abbrev pub IsSortedOn : List ℕ → List Row → Type 0
IsSortedOn columns rows = IsInOrder (map ascending columns) rows
