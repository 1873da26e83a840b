use Rattle.typed_meaning.proofs.Groups.{group-typed}
use Rattle.typed_meaning.proofs.laws.typed_group_law.Goals as goal

pub returns : goal.returns
returns c = λ rows scope envs tree t all few flat some e. group-typed rows scope envs all few tree flat some t e
