use Rattle.sql_algebra.proofs.WholeTypes.{algebra-typed}
use Rattle.sql_algebra.proofs.laws.well_formed_law.Goals as goal

pub returns : goal.returns
returns c = algebra-typed
