use Rattle.plan_orders.proofs.Widths.{made-wide}
use Rattle.plan_orders.proofs.laws.node_law.Goals as goal

pub returns : goal.returns
returns c = made-wide
