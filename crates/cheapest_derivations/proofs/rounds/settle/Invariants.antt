use Rattle.std.proofs.Common.{◌≡◌, ◌-◌, ◌^◌, length}
use Rattle.cheapest_derivations.specs.Tables.{IsSound}
use Rattle.cheapest_derivations.proofs.rounds.settle.Given as goal

abbrev pub invariant-rounds : goal.invariant-rounds
invariant-rounds l = record {
  len : length l.cells ≡ length l.initial.cells;
  sound : IsSound l.limit l.edges l.cells l.steps;
}

-- each round but the last adds a step, and no list has 2^64
abbrev pub decreases-rounds : goal.decreases-rounds
decreases-rounds l = 2 ^ 64 - length l.steps
