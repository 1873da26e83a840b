use Rattle.plan_meaning.proofs.Plans.{space-widths}
use Rattle.plan_meaning.proofs.laws.widths_law.Goals as goal

pub returns : goal.returns
returns c = space-widths
