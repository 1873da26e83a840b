use Rattle.std.proofs.Common.{◌≡◌, ◌++◌}
use Rattle.rules_join.proofs.associate.both.Given as goal

abbrev pub invariant-loop-conjunct : goal.invariant-loop-conjunct
invariant-loop-conjunct l = l.conjuncts ≡ l.initial.conjuncts ++ l.yielded
