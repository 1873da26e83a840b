use Rattle.std.proofs.Common.{◌≡◌, ◌++◌, drop, filter}
use Rattle.rules_filter.specs.Sides.{is_on}
use Rattle.rules_filter.proofs.sides.those_on.Given as goal

abbrev pub invariant-loop-conjunct : goal.invariant-loop-conjunct
invariant-loop-conjunct l =
    l.those ++ filter (is_on l.width l.side) (drop l.conjunct-index l.conjuncts) ≡ filter (is_on l.width l.side) l.conjuncts
