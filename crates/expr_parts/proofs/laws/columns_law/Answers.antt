use Rattle.expr_parts.proofs.ColumnLaws.{same_columns-mean, same_columns-type}
use Rattle.expr_parts.proofs.laws.columns_law.Goals as goal

pub returns : goal.returns
returns c = record { value = same_columns-mean; of_type = same_columns-type }
