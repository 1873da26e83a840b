use Rattle.phys_plan.proofs.RowLemmas.{rows-all}
use Rattle.phys_plan.proofs.laws.roots_law.Goals as goal

pub returns : goal.returns
returns c = rows-all
