use Rattle.std.proofs.Common.{◌≡◌, filter}
use Rattle.cal_rel.specs.Operators.{holds}
use Rattle.row_exec.proofs.nodes.filtered.Given as goal

abbrev pub invariant-loop-row : goal.invariant-loop-row
invariant-loop-row l = l.kept ≡ filter (holds l.predicate) l.yielded
