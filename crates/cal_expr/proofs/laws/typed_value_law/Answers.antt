use Rattle.cal_expr.proofs.Typed.{meaning-typed}
use Rattle.cal_expr.proofs.laws.typed_value_law.Goals as goal

pub returns : goal.returns
returns c = meaning-typed c.args.row.now c.args.columns.now c.requires.row c.args.expr.now c.args.t c.requires.typed
