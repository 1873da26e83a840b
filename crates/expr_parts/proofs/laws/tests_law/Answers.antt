use Rattle.expr_parts.specs.Columns.{columns_read}
use Rattle.expr_parts.proofs.ColumnLaws.{below-all, from-all}
use Rattle.expr_parts.proofs.laws.tests_law.Goals as goal

pub returns : goal.returns
returns c = record { below = λ e width. below-all width (columns_read e); from = λ e width. from-all width (columns_read e) }
