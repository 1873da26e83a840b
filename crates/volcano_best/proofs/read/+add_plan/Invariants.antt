use Rattle.volcano_best.specs.Solved.{size}
use Rattle.volcano_best.proofs.read.+add_plan.Given as goal

abbrev pub decreases-add_plan : goal.decreases-add_plan
decreases-add_plan l = size l.place
