use Rattle.std.proofs.Common.{◌≡◌, ◌++◌, take}
use Rattle.row_exec.proofs.tests.appended.Given as goal

abbrev pub invariant-loop-t : goal.invariant-loop-t
invariant-loop-t l = l.both ≡ l.left ++ take l.t-index l.right
