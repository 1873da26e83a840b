use Rattle.std.proofs.Common.{◌≡◌, drop}
use Rattle.cal_value.specs.Order.{row_cmp}
use Rattle.cal_value.proofs.order.compare_rows.Given as goal

abbrev pub invariant-loop-key : goal.invariant-loop-key
invariant-loop-key l = row_cmp l.keys l.a l.b ≡ row_cmp (drop l.key-index l.keys) l.a l.b
