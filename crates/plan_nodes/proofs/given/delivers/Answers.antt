use Rattle.std.proofs.Common.{refl}
use Rattle.plan_nodes.proofs.PlanLemmas.{given-traits}
use Rattle.plan_nodes.proofs.given.delivers.Goals as goal

pub returns : goal.returns
returns c =
    given-traits c.args.info.now c.args.plan.now c.in_ok-shape.shape.width c.in_ok-shape.shape.order
    (record { convention = c.convention_of.result; collation = c.in_ok-shape.shape.order }) c.in_ok-shape.ensures c.convention_of.ensures refl
