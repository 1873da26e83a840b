use Rattle.std.proofs.Common.{◌≡◌, ◌++◌, drop, map}
use Rattle.expr_parts.specs.Columns.{shifted_down}
use Rattle.rules_filter.proofs.sides.all_shifted.Given as goal

abbrev pub invariant-loop-conjunct : goal.invariant-loop-conjunct
invariant-loop-conjunct l = l.moved ++ map (shifted_down l.by) (drop l.conjunct-index l.conjuncts) ≡ map (shifted_down l.by) l.conjuncts
