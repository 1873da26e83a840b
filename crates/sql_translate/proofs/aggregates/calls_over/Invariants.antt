use Rattle.std.proofs.Common.{◌≡◌, ◌++◌, map, drop}
use Rattle.cal_expr.specs.Equal.{expr_eq}
use Rattle.sql_algebra.specs.Algebra.{call_over, place_among}
use Rattle.sql_translate.proofs.aggregates.calls_over.Given as goal

abbrev pub invariant-loop-call : goal.invariant-loop-call
invariant-loop-call l = l.all ++ map (call_over (λ e. place_among expr_eq e l.exprs)) (drop l.call-index l.calls) ≡ map (call_over (λ e. place_among expr_eq e l.exprs)) l.calls
