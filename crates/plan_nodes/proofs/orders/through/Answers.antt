use Rattle.plan_nodes.specs.Orders.{ascending_key}
use Rattle.plan_nodes.proofs.OrderSteps.{through-none, through-next}
use Rattle.plan_nodes.proofs.orders.through.Goals as goal

pub returns-in_default : goal.returns-in_default
returns-in_default c =
    through-none c.args.items.now c.args.order.now c.loop-key.given c.loop-key.key-index (ascending_key 0)
    c.loop-key-test.true c.in_default.ensures c.loop-key.invariant

pub loop-key-preserved : goal.loop-key-preserved
loop-key-preserved c =
    through-next c.args.items.now c.args.order.now c.loop-key.given c.push.new.self c.loop-key.key-index c.in-Some.place c.in_ok-column.column
    (ascending_key 0) c.moved.result c.loop-key-test.true c.in-Some.ensures c.in_ok-column.ensures c.moved.ensures c.in_ok-push.ensures.ok c.loop-key.invariant
