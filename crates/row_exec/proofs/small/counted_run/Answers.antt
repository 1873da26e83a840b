use Rattle.row_exec.proofs.SmallPlans.{can-run-counted}
use Rattle.row_exec.proofs.small.counted_run.Goals as goal

pub execute-requires-clause-plan : goal.execute-requires-clause-plan
execute-requires-clause-plan g c = can-run-counted _ _ c.args.plan.now c.requires.plan
