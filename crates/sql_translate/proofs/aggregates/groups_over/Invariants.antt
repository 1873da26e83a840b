use Rattle.std.proofs.Common.{◌≡◌, ◌++◌, map, drop}
use Rattle.cal_expr.specs.declared.expr.Expr.TheVariants.{Column}
use Rattle.cal_expr.specs.Equal.{expr_eq}
use Rattle.sql_algebra.specs.Algebra.{place_among}
use Rattle.sql_translate.proofs.aggregates.groups_over.Given as goal

abbrev pub invariant-loop-column : goal.invariant-loop-column
invariant-loop-column l = l.places ++ map (λ column. place_among expr_eq (Column column) l.exprs) (drop l.column-index l.groups) ≡ map (λ column. place_among expr_eq (Column column) l.exprs) l.groups
