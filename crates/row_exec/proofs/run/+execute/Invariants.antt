use Rattle.row_exec.proofs.Sizes.{nodes}
use Rattle.row_exec.proofs.run.+execute.Given as goal

abbrev pub decreases-execute : goal.decreases-execute
decreases-execute g l = nodes l.plan.now
