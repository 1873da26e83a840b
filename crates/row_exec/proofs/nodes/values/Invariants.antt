use Rattle.std.proofs.Common.{◌≡◌, take}
use Rattle.cal_rel.specs.Operators.{projected}
use Rattle.row_exec.proofs.nodes.values.Given as goal

abbrev pub invariant-loop-item : goal.invariant-loop-item
invariant-loop-item l = l.values ≡ projected (take l.item-index l.items) l.row
