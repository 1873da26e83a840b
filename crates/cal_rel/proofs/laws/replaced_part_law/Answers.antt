use Rattle.cal_rel.proofs.Replaced.{replaced-means}
use Rattle.cal_rel.proofs.laws.replaced_part_law.Goals as goal

pub returns : goal.returns
returns c = replaced-means
