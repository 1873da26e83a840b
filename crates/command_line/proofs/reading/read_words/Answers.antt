use Rattle.std.proofs.lemmas.Result.{IfOk-weaker}
use Rattle.command_line.proofs.ReadingLemmas.{none_exactly}
use Rattle.command_line.proofs.reading.read_words.Goals as goal

pub returns-clause-none : goal.returns-clause-none
returns-clause-none c = IfOk-weaker c.words_read.result _ _ (λ found is. none_exactly c.args.words.now found is) c.words_read.ensures.reading
