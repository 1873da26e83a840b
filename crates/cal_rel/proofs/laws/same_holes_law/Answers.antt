use Rattle.cal_rel.proofs.SameBags.{same-holes}
use Rattle.cal_rel.proofs.laws.same_holes_law.Goals as goal

pub returns : goal.returns
returns c = same-holes
