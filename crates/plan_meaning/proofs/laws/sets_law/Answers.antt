use Rattle.plan_meaning.proofs.Nodes.{plan_width-over, order_of-over, plan_bag-over}
use Rattle.plan_meaning.proofs.laws.sets_law.Goals as goal

pub returns-clause-rows : goal.returns-clause-rows
returns-clause-rows c = λ info types db tree. plan_bag-over info types db tree

pub returns-clause-columns : goal.returns-clause-columns
returns-clause-columns c = plan_width-over

pub returns-clause-order : goal.returns-clause-order
returns-clause-order c = order_of-over
