use Rattle.std.proofs.Common.{◌≡◌, ◌++◌, drop, map}
use Rattle.cal_expr.specs.declared.expr.Expr.TheVariants.{Column}
use Rattle.rules_join.proofs.columns.items_of.Given as goal

abbrev pub invariant-loop-at : goal.invariant-loop-at
invariant-loop-at l = l.items ++ map (λ at. Column at) (drop l.at-index l.columns) ≡ map (λ at. Column at) l.columns
