use Rattle.phys_plan.proofs.WidthLemmas.{plan-wide}
use Rattle.phys_plan.proofs.laws.widths_law.Goals as goal

pub returns : goal.returns
returns c = plan-wide
