use Rattle.std.proofs.Common.{◌∙◌}
use Rattle.phys_plan.proofs.WaySteps.{ways-end}
use Rattle.phys_plan.proofs.spelled.fitting_ways.Goals as goal

pub returns : goal.returns
returns c =
    c.loop-member.invariant
    ∙ ways-end c.args.only c.args.space.now c.args.set c.args.order.now c.as_slice-member-items.result.now c.loop-member.member-index
    c.as_slice-member-items.ensures c.loop-member-test.false
