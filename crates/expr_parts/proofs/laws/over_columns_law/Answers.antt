use Rattle.expr_parts.proofs.ColumnLaws.{over_columns-mean_before}
use Rattle.expr_parts.proofs.laws.over_columns_law.Goals as goal

pub returns : goal.returns
returns c = over_columns-mean_before
