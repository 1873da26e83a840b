use Rattle.std.proofs.Common.{◌≡◌, map, drop, []}
use Rattle.cal_expr.specs.declared.expr.Expr.TheVariants.{Column}
use Rattle.cal_expr.specs.Equal.{expr_eq}
use Rattle.sql_translate.specs.Once.{with_each}
use Rattle.sql_translate.proofs.aggregates.group_inputs.Given as goal

abbrev pub invariant-loop-column : goal.invariant-loop-column
invariant-loop-column l = with_each expr_eq l.exprs (map Column (drop l.column-index l.groups)) ≡ with_each expr_eq [] (map Column l.groups)
