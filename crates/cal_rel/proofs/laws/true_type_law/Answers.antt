use Rattle.cal_rel.proofs.TrueTypes.{type-true}
use Rattle.cal_rel.proofs.laws.true_type_law.Goals as goal

pub returns : goal.returns
returns c = type-true
