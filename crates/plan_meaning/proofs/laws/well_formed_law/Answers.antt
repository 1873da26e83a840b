use Rattle.plan_meaning.proofs.Plans.{plan-well_formed}
use Rattle.plan_meaning.proofs.laws.well_formed_law.Goals as goal

pub returns : goal.returns
returns c = plan-well_formed
