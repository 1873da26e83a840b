use Rattle.std.proofs.Common.{◌≡◌, ◌+◌, ◌-◌, ◌≤◌}
use Rattle.plan_nodes.specs.Weights.{bits, digits}
use Rattle.plan_nodes.proofs.weights.bits.Given as goal

abbrev pub invariant-loop : goal.invariant-loop
invariant-loop l = record {
  all : bits l.n ≡ l.count + digits (128 - l.counter) l.left;
  few : l.count ≤ l.counter;
}
