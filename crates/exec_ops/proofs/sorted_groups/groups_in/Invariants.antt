use Rattle.std.proofs.Common.{◌≡◌, ◌≤◌, ◌-◌, ◌++◌, length, drop}
use Rattle.exec_ops.specs.Group.{by_key}
use Rattle.exec_ops.proofs.sorted_groups.groups_in.Given as goal

abbrev pub invariant-loop-start : goal.invariant-loop-start
invariant-loop-start l = record {
  within : l.start ≤ length l.rows;
  made : l.made ++ by_key l.groups l.calls (drop l.start l.rows) ≡ by_key l.groups l.calls l.rows;
}

abbrev pub decreases-loop-start : goal.decreases-loop-start
decreases-loop-start l = length l.rows - l.start
