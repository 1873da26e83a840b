use Rattle.std.proofs.Common.{◌≡◌, take}
use Rattle.cal_aggregate.specs.Aggregate.{aggregated}
use Rattle.exec_ops.specs.Group.{values_in}
use Rattle.exec_ops.specs.Places.{rows_at}
use Rattle.exec_ops.proofs.groups.aggregate_in.Given as goal

abbrev pub invariant-loop-place : goal.invariant-loop-place
invariant-loop-place l = l.so_far ≡ aggregated l.agg (take l.place-index (values_in l.column (rows_at l.rows l.places)))
