use Rattle.cal_rel.proofs.MoreLaws.{typed-holes}
use Rattle.cal_rel.proofs.TrueTypes.{type-width}
use Rattle.cal_rel.proofs.laws.well_formed_law.Goals as goal

pub returns : goal.returns
returns c = record { columns = type-width; sets = typed-holes }
