-- Which conjuncts of a filter over a join go where.
use Rattle.std.specs.Prelude.{ℕ, Bool, not}
use Rattle.cal_expr.specs.declared.expr.Expr.{Expr}
use Rattle.filter_images.specs.FilterIntoJoin.{is_left, is_right, is_of_both}
use Rattle.rules_filter.specs.declared.sides.Side.{Side}
use Rattle.rules_filter.specs.declared.sides.Side.TheVariants as side

abbrev pub is_on : ℕ → Side → Expr → Bool
is_on width side.Left conjunct = is_left width conjunct
is_on width side.Right conjunct = is_right width conjunct
is_on width side.Both conjunct = is_of_both width conjunct
is_on width side.NotLeft conjunct = not (is_left width conjunct)
