use Rattle.std.proofs.Common.{arith, ap, length}
use Rattle.cal_aggregate.proofs.AggregateTyped.{can_combine, well_aggregated}
use Rattle.cal_aggregate.proofs.aggregates.aggregate.Goals as goal

pub combine-requires : goal.combine-requires
combine-requires c = can_combine c.args.agg c.as_slice-value-items.result.now c.args.values.now c.loop-value.value-index c.loop-value.so_far c.value-item.result
    c.as_slice-value-items.ensures c.requires c.loop-value-test.true c.loop-value.invariant c.value-item.is

pub returns-clause-typed : goal.returns-clause-typed
returns-clause-typed c = well_aggregated c.args.agg c.args.values.now c.loop-value.value-index c.loop-value.so_far c.loop-value.invariant (omega (arith, ap length c.as_slice-value-items.ensures))
