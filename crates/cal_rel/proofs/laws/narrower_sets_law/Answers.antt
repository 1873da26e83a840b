use Rattle.cal_rel.proofs.Narrower.{type-narrow}
use Rattle.cal_rel.proofs.laws.narrower_sets_law.Goals as goal

pub returns : goal.returns
returns c = type-narrow
