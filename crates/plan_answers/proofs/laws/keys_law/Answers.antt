use Rattle.plan_answers.proofs.KeyLemmas.{keys-within}
use Rattle.plan_answers.proofs.laws.keys_law.Goals as goal

pub returns : goal.returns
returns c = keys-within
