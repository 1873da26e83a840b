use Rattle.plan_orders.proofs.Keys.{keys-within}
use Rattle.plan_orders.proofs.laws.keys_law.Goals as goal

pub returns : goal.returns
returns c = keys-within
