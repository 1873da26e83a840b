use Rattle.std.proofs.Common.{◌≡◌, ◌++◌, drop, map}
use Rattle.expr_parts.specs.Columns.{over_items}
use Rattle.rules_project.proofs.merge.all_over.Given as goal

abbrev pub invariant-loop-item : goal.invariant-loop-item
invariant-loop-item l = l.items ++ map (over_items l.lower) (drop l.item-index l.upper) ≡ map (over_items l.lower) l.upper
