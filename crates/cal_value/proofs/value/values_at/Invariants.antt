use Rattle.std.proofs.Common.{◌≡◌, take}
use Rattle.cal_value.specs.Order.{columns_of}
use Rattle.cal_value.proofs.value.values_at.Given as goal

abbrev pub invariant-loop-column : goal.invariant-loop-column
invariant-loop-column l = l.values ≡ columns_of l.row (take l.column-index l.columns)
