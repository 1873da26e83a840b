use Rattle.plan_orders.proofs.UpTo.{prefix-order}
use Rattle.plan_orders.proofs.laws.prefix_law.Goals as goal

pub returns : goal.returns
returns c = prefix-order
