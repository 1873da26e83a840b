use Rattle.sql_algebra.proofs.Whole.{algebra-rows}
use Rattle.sql_algebra.proofs.laws.algebra_law.Goals as goal

pub returns : goal.returns
returns c = algebra-rows
