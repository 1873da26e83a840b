use Rattle.typed_meaning.proofs.Accepted.{accepted-typed}
use Rattle.typed_meaning.proofs.laws.accepted_values_law.Goals as goal

pub returns : goal.returns
returns c = accepted-typed
