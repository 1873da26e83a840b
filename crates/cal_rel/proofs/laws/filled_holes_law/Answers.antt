use Rattle.cal_rel.proofs.Renumbered.{width-filled, bag-filled}
use Rattle.cal_rel.proofs.laws.filled_holes_law.Goals as goal

pub returns : goal.returns
returns c = record { columns = width-filled; rows = bag-filled }
