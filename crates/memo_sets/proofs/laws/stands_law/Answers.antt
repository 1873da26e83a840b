use Rattle.memo_model.proofs.KeepLemmas.{stands-kept}
use Rattle.memo_model.proofs.StandLemmas.{stands-means, stands-once}
use Rattle.memo_sets.proofs.laws.stands_law.Goals as goal

pub returns-clause-means : goal.returns-clause-means
returns-clause-means c = λ info m s x sound stands. stands-means info m sound.coherent s x stands

pub returns-clause-kept : goal.returns-clause-kept
returns-clause-kept c = λ old new s x keeps stands. stands-kept old new keeps s x stands

pub returns-clause-once : goal.returns-clause-once
returns-clause-once c = λ members s r x unique first second. stands-once members unique s r x first second
