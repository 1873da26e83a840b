use Rattle.plan_spaces.proofs.PartLemmas.{are-parts}
use Rattle.plan_spaces.proofs.laws.parts_law.Goals as goal

pub returns : goal.returns
returns c = are-parts
