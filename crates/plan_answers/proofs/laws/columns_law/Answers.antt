use Rattle.plan_answers.proofs.KeyLemmas.{algebra-width}
use Rattle.plan_answers.proofs.laws.columns_law.Goals as goal

pub returns : goal.returns
returns c = algebra-width
