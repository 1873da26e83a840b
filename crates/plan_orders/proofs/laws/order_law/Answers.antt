use Rattle.plan_orders.proofs.Nodes.{made-order}
use Rattle.plan_orders.proofs.laws.order_law.Goals as goal

pub returns : goal.returns
returns c = made-order
