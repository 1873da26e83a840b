use Rattle.std.proofs.Common.{◌≡◌, ◌++◌, map}
use Rattle.cal_expr.specs.declared.expr.Expr.TheVariants.{Column}
use Rattle.rules_agg.proofs.remove.with_groups.Given as goal

abbrev pub invariant-loop-value : goal.invariant-loop-value
invariant-loop-value l = l.items ≡ map Column l.groups ++ l.yielded
