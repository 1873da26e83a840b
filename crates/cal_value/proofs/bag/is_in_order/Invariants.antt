use Rattle.std.specs.Ordering.{is_lt}
use Rattle.std.specs.List.Sorted.{IsSortedWithin}
use Rattle.cal_value.specs.Order.{row_cmp}
use Rattle.cal_value.proofs.bag.is_in_order.Given as goal

abbrev pub invariant-loop-at : goal.invariant-loop-at
invariant-loop-at l = IsSortedWithin (λ a b. is_lt (row_cmp l.keys a b)) l.rows 0 l.at
