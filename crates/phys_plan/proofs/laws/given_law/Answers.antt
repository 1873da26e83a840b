use Rattle.phys_plan.proofs.RowLemmas.{realised-order, realised-rows}
use Rattle.phys_plan.proofs.laws.given_law.Goals as goal

pub returns : goal.returns
returns c = record { rows = realised-rows; order = realised-order }
