use Rattle.plan_meaning.proofs.Plans.{asked-means, plan-means}
use Rattle.plan_meaning.proofs.laws.plan_meaning_law.Goals as goal

pub returns-clause-plan : goal.returns-clause-plan
returns-clause-plan c = plan-means

pub returns-clause-asked : goal.returns-clause-asked
returns-clause-asked c = asked-means
