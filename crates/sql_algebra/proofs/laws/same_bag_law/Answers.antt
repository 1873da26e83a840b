use Rattle.sql_algebra.proofs.Whole.{same-bag}
use Rattle.sql_algebra.proofs.laws.same_bag_law.Goals as goal

pub returns : goal.returns
returns c = same-bag
