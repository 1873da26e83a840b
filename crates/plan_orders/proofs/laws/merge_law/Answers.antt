use Rattle.plan_orders.proofs.Nodes.{merge-first, merge-second}
use Rattle.plan_orders.proofs.laws.merge_law.Goals as goal

pub returns-clause-first : goal.returns-clause-first
returns-clause-first c = merge-first

pub returns-clause-second : goal.returns-clause-second
returns-clause-second c = merge-second
