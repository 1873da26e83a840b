use Rattle.volcano_best.specs.Solved.{size}
use Rattle.volcano_best.proofs.index.find.Given as goal

abbrev pub decreases-chain : goal.decreases-chain
decreases-chain l = size l.next
