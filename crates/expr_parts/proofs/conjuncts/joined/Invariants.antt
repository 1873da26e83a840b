use Rattle.std.proofs.Common.{◌≡◌, ◌++◌}
use Rattle.expr_parts.proofs.conjuncts.joined.Given as goal

abbrev pub invariant-loop-condition : goal.invariant-loop-condition
invariant-loop-condition l = l.conjuncts ≡ l.initial.conjuncts ++ l.yielded
