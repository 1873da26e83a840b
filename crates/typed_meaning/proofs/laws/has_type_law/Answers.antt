use Rattle.typed_meaning.proofs.Known.{has_type}
use Rattle.typed_meaning.proofs.laws.has_type_law.Goals as goal

pub returns : goal.returns
returns c = has_type
