use Rattle.typed_meaning.proofs.Types.{accepted-types}
use Rattle.typed_meaning.proofs.laws.accepted_types_law.Goals as goal

pub returns : goal.returns
returns c = accepted-types
