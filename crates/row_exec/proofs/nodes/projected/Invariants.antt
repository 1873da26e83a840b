use Rattle.std.proofs.Common.{◌≡◌, map, take}
use Rattle.cal_rel.specs.Operators as spec
use Rattle.row_exec.proofs.nodes.projected.Given as goal

abbrev pub invariant-loop-row : goal.invariant-loop-row
invariant-loop-row l = l.made ≡ map (spec.projected l.items) (take l.row-index l.rows)
