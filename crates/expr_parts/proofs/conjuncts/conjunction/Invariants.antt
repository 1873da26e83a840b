use Rattle.std.proofs.Common.{◌≡◌}
use Rattle.expr_parts.specs.Conjuncts.{and_all}
use Rattle.expr_parts.proofs.conjuncts.conjunction.Given as goal

abbrev pub invariant-loop-condition : goal.invariant-loop-condition
invariant-loop-condition l = l.made ≡ and_all l.initial.made l.yielded
