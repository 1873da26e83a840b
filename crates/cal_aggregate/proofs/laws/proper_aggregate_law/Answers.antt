use Rattle.cal_aggregate.proofs.AggregateLaws.{agg_type-proper}
use Rattle.cal_aggregate.proofs.laws.proper_aggregate_law.Goals as goal

pub returns : goal.returns
returns c = agg_type-proper c.args.agg c.args.argument c.args.t c.args.bound c.requires.argument c.requires.typed
