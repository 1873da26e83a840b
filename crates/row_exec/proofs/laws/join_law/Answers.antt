use Rattle.row_exec.proofs.SameRows.{join-same}
use Rattle.row_exec.proofs.laws.join_law.Goals as goal

pub returns : goal.returns
returns c = join-same
