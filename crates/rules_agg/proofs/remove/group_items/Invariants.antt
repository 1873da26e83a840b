use Rattle.std.proofs.Common.{◌≡◌, map, take}
use Rattle.cal_expr.specs.declared.expr.Expr.TheVariants.{Column}
use Rattle.rules_agg.proofs.remove.group_items.Given as goal

abbrev pub invariant-loop-group : goal.invariant-loop-group
invariant-loop-group l = l.items ≡ map Column (take l.group-index l.groups)
