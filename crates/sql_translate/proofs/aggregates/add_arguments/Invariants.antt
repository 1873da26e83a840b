use Rattle.std.proofs.Common.{◌≡◌, drop}
use Rattle.std.specs.List.{flat_map}
use Rattle.cal_expr.specs.Equal.{expr_eq}
use Rattle.sql_meaning.specs.Parts.{listed}
use Rattle.sql_translate.specs.Once.{with_each}
use Rattle.sql_translate.proofs.aggregates.add_arguments.Given as goal

abbrev pub invariant-loop-call : goal.invariant-loop-call
invariant-loop-call l = with_each expr_eq l.exprs (flat_map (λ call. listed call.argument) (drop l.call-index l.calls)) ≡ with_each expr_eq l.initial.exprs (flat_map (λ call. listed call.argument) l.calls)
