use Rattle.cal_aggregate.proofs.AggregateLaws.{agg_type-narrower}
use Rattle.cal_aggregate.proofs.laws.narrower_argument_law.Goals as goal

pub returns : goal.returns
returns c = agg_type-narrower c.args.narrow c.args.wide c.args.fewer c.args.bound c.requires.argument c.requires.rows c.args.agg
