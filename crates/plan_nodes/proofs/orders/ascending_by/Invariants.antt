use Rattle.std.proofs.Common.{◌≡◌, take}
use Rattle.plan_nodes.specs.Orders.{ascending_by}
use Rattle.plan_nodes.proofs.orders.ascending_by.Given as goal

abbrev pub invariant-loop-column : goal.invariant-loop-column
invariant-loop-column l = l.order ≡ ascending_by (take l.column-index l.columns)
