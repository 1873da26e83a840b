use Rattle.expr_parts.proofs.ColumnLaws.{over_items-mean}
use Rattle.expr_parts.proofs.laws.over_items_law.Goals as goal

pub returns : goal.returns
returns c = over_items-mean
