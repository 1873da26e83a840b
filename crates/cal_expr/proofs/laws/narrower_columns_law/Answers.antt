use Rattle.cal_expr.proofs.Narrower.{type_of-narrower}
use Rattle.cal_expr.proofs.laws.narrower_columns_law.Goals as goal

pub returns : goal.returns
returns c = type_of-narrower c.args.narrow.now c.args.wide.now c.requires c.args.expr.now
