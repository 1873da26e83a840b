use Rattle.memo_model.proofs.KeepLemmas.{keeps-trans}
use Rattle.memo_sets.proofs.laws.keeps_law.Goals as goal

pub returns : goal.returns
returns c = λ first second third h k. keeps-trans first second third h k
