use Rattle.std.proofs.Common.{◌≡◌}
use Rattle.cal_rel.specs.Tiles.{ascending}
use Rattle.plan_nodes.proofs.orders.ascending.Given as goal

abbrev pub invariant-loop-column : goal.invariant-loop-column
invariant-loop-column l = l.order ≡ ascending l.column
