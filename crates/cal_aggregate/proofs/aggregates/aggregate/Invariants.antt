use Rattle.std.proofs.Common.{◌≡◌, take}
use Rattle.cal_aggregate.specs.Aggregate.{aggregated}
use Rattle.cal_aggregate.proofs.aggregates.aggregate.Given as goal

abbrev pub invariant-loop-value : goal.invariant-loop-value
invariant-loop-value l = l.so_far ≡ aggregated l.agg (take l.value-index l.values)
