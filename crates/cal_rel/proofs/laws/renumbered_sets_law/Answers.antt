use Rattle.cal_rel.proofs.Renumbered.{types-renumbered, rows-renumbered}
use Rattle.cal_rel.proofs.laws.renumbered_sets_law.Goals as goal

pub returns : goal.returns
returns c = record { types = types-renumbered; rows = rows-renumbered }
