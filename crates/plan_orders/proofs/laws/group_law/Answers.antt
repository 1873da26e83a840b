use Rattle.plan_orders.proofs.Nodes.{group-first}
use Rattle.plan_orders.proofs.laws.group_law.Goals as goal

pub returns : goal.returns
returns c = group-first
