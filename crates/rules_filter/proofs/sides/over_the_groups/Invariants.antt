use Rattle.std.proofs.Common.{◌≡◌, ◌++◌, drop, map}
use Rattle.expr_parts.specs.Columns.{over_columns}
use Rattle.rules_filter.proofs.sides.over_the_groups.Given as goal

abbrev pub invariant-loop-conjunct : goal.invariant-loop-conjunct
invariant-loop-conjunct l = l.moved ++ map (over_columns l.groups) (drop l.conjunct-index l.conjuncts) ≡ map (over_columns l.groups) l.conjuncts
