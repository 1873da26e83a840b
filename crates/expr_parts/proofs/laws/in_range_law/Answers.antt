use Rattle.expr_parts.proofs.ColumnLaws.{well_formed-reads}
use Rattle.expr_parts.proofs.laws.in_range_law.Goals as goal

pub returns : goal.returns
returns c = well_formed-reads
