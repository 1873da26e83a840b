use Rattle.expr_parts.proofs.ColumnLaws.{replaced_columns-mean}
use Rattle.expr_parts.proofs.laws.replaced_columns_law.Goals as goal

pub returns : goal.returns
returns c = replaced_columns-mean
