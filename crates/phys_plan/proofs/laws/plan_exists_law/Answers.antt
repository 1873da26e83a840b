use Rattle.phys_plan.proofs.Exists.{has-plan}
use Rattle.phys_plan.proofs.laws.plan_exists_law.Goals as goal

pub returns : goal.returns
returns c = has-plan
