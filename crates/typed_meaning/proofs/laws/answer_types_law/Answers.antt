use Rattle.typed_meaning.proofs.Output.{answer-typed}
use Rattle.typed_meaning.proofs.laws.answer_types_law.Goals as goal

pub returns : goal.returns
returns c = answer-typed
