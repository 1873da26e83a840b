use Rattle.expr_parts.proofs.ColumnLaws.{constant-mean, constant-type}
use Rattle.expr_parts.proofs.laws.constant_law.Goals as goal

pub returns : goal.returns
returns c = record { value = constant-mean; of_type = constant-type }
