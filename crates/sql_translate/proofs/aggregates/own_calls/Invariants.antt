use Rattle.std.proofs.Common.{◌≡◌, ◌++◌, map, drop, unwrap_or}
use Rattle.sql_algebra.specs.Algebra.{call_over, column_in}
use Rattle.sql_translate.proofs.aggregates.own_calls.Given as goal

abbrev pub invariant-loop-call : goal.invariant-loop-call
invariant-loop-call l = l.all ++ map (call_over (λ e. unwrap_or (column_in e) 0)) (drop l.call-index l.calls) ≡ map (call_over (λ e. unwrap_or (column_in e) 0)) l.calls
