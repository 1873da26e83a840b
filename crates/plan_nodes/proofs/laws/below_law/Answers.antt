use Rattle.plan_nodes.proofs.OrderLemmas.{below-up, below-down, below-asked}
use Rattle.plan_nodes.proofs.laws.below_law.Goals as goal

pub returns : goal.returns
returns c = record { least = below-up; enough = below-down; asked = below-asked }
