use Rattle.std.proofs.Common.{◌≡◌, ◌++◌}
use Rattle.rules_filter.proofs.filtered.joined.Given as goal

abbrev pub invariant-loop-conjunct : goal.invariant-loop-conjunct
invariant-loop-conjunct l = l.conjuncts ≡ l.initial.conjuncts ++ l.yielded
