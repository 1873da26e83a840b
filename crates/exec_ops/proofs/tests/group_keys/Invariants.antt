use Rattle.std.proofs.Common.{◌≡◌, map, take}
use Rattle.exec_ops.specs.Sort.{ascending}
use Rattle.exec_ops.proofs.tests.group_keys.Given as goal

abbrev pub invariant-loop-column : goal.invariant-loop-column
invariant-loop-column l = l.keys ≡ map ascending (take l.column-index l.groups)
