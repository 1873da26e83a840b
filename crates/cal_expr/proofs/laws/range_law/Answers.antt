use Rattle.cal_expr.proofs.Ranges.{in_range, proper_type}
use Rattle.cal_expr.proofs.laws.range_law.Goals as goal

pub returns : goal.returns
returns c = record {
  range = in_range c.args.columns.now c.args.expr.now c.args.t c.requires;
  order = λ all. proper_type c.args.columns.now c.args.expr.now c.args.t all c.requires;
}
