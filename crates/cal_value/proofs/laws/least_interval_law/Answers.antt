use Rattle.cal_value.proofs.IntervalLaws.{hull-least}
use Rattle.cal_value.proofs.laws.least_interval_law.Goals as goal

pub returns : goal.returns
returns c = hull-least c.args.p c.args.q c.args.r c.args.s
