use Rattle.plan_answers.proofs.PlanLemmas.{has-widths, holds-tree}
use Rattle.plan_answers.proofs.laws.choice_law.Goals as goal

pub returns : goal.returns
returns c = record { tree = holds-tree; widths = has-widths }
