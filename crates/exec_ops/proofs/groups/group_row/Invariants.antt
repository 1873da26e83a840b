use Rattle.std.proofs.Common.{◌≡◌, ◌++◌, take}
use Rattle.exec_ops.specs.Group.{called}
use Rattle.exec_ops.specs.Places.{rows_at}
use Rattle.exec_ops.proofs.groups.group_row.Given as goal

abbrev pub invariant-loop-call : goal.invariant-loop-call
invariant-loop-call l = l.row ≡ l.fn.key ++ called (take l.call-index l.calls) (rows_at l.rows l.places)
