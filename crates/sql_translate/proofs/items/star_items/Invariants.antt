use Rattle.std.proofs.Common.{◌≡◌, ◌++◌, map, drop}
use Rattle.cal_expr.specs.declared.expr.Expr.TheVariants.{Column}
use Rattle.sql_translate.proofs.items.star_items.Given as goal

abbrev pub invariant-loop-at : goal.invariant-loop-at
invariant-loop-at l = l.items ++ map Column (drop l.at-index l.at-items) ≡ map Column l.at-items
