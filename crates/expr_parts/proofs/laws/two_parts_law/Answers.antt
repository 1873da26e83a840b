use Rattle.expr_parts.proofs.ColumnLaws.{first_part-mean, shifted_down-mean}
use Rattle.expr_parts.proofs.laws.two_parts_law.Goals as goal

pub returns : goal.returns
returns c = record { first = first_part-mean; second = shifted_down-mean }
