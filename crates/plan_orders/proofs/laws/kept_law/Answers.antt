use Rattle.plan_orders.proofs.Nodes.{kept-sorted}
use Rattle.plan_orders.proofs.laws.kept_law.Goals as goal

pub returns : goal.returns
returns c = kept-sorted
