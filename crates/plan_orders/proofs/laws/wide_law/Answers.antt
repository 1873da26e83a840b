use Rattle.plan_orders.proofs.Widths.{plan-wide}
use Rattle.plan_orders.proofs.laws.wide_law.Goals as goal

pub returns : goal.returns
returns c = plan-wide
