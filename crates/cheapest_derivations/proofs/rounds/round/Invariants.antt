use Rattle.std.proofs.Common.{◌≤◌, length}
use Rattle.cheapest_derivations.proofs.RoundSteps.{Goes}
use Rattle.cheapest_derivations.proofs.rounds.round.Given as goal

abbrev pub invariant-edges : goal.invariant-edges
invariant-edges l = record {
  goes : Goes l.limit l.edges (length l.initial.cells) (length l.initial.steps) l.cells l.steps l.left;
  within : l.left ≤ length l.edges;
}

abbrev pub decreases-edges : goal.decreases-edges
decreases-edges l = l.left
