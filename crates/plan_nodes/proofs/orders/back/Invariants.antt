use Rattle.std.proofs.Common.{◌≡◌, drop}
use Rattle.plan_nodes.specs.Orders.{back}
use Rattle.plan_nodes.proofs.OrderSteps.{after}
use Rattle.plan_nodes.proofs.orders.back.Given as goal

abbrev pub invariant-loop-key : goal.invariant-loop-key
invariant-loop-key l = back l.items l.need ≡ after l.order (back l.items (drop l.key-index l.need))
