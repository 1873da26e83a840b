use Rattle.typed_meaning.proofs.Values.{value-typed}
use Rattle.typed_meaning.proofs.laws.typed_value_law.Goals as goal

pub returns : goal.returns
returns c = λ rows scope env tree t h plain e. value-typed rows scope env h tree plain t e
