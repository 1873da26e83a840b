use Rattle.cal_rel.proofs.InRange.{type-in_range, values-in_range}
use Rattle.cal_rel.proofs.laws.range_law.Goals as goal

pub returns : goal.returns
returns c = record { types = type-in_range; values = values-in_range }
