use Rattle.rules_project.proofs.ReducedSteps.{constant-formed}
use Rattle.rules_project.proofs.reductions.constant.Goals as goal

pub eval-requires : goal.eval-requires
eval-requires c = rw c.new-row.ensures (constant-formed c.args.e.now c.args._columns.now c.requires.constant c.requires.typed)
