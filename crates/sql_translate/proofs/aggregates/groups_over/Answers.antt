use Rattle.std.proofs.Common.{◌≡◌}
use Rattle.cal_expr.specs.declared.expr.Expr.TheVariants.{Column}
use Rattle.cal_expr.specs.Equal.{expr_eq}
use Rattle.sql_algebra.specs.Algebra.{place_among}
use Rattle.sql_translate.proofs.Places.{turn}
use Rattle.sql_translate.proofs.aggregates.groups_over.Goals as goal

pub loop-column-preserved : goal.loop-column-preserved
loop-column-preserved c = turn (λ column. place_among expr_eq (Column column) c.args.exprs.now) c.args.groups.now c.loop-column.column-index 0 c.loop-column.places c.push.new.self _ _ c.loop-column-test.true c.loop-column.invariant c.in_ok-group_over.ensures c.in_ok-push.ensures.ok
