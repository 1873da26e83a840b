use Rattle.std.proofs.Common.{◌≡◌, ◌++◌, drop}
use Rattle.plan_nodes.specs.Orders.{through}
use Rattle.plan_nodes.proofs.orders.through.Given as goal

abbrev pub invariant-loop-key : goal.invariant-loop-key
invariant-loop-key l = through l.items l.order ≡ l.given ++ through l.items (drop l.key-index l.order)
