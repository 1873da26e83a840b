use Rattle.phys_plan.specs.Seen.{space_of}
use Rattle.phys_plan.proofs.KeptSteps.{alternatives-end}
use Rattle.phys_plan.proofs.alternatives.alternatives_of.Goals as goal

pub returns : goal.returns
returns c =
    alternatives-end (space_of c.args.space.now) c.args.state.now c.as_slice.result.now c.loop-way.out c.as_slice-way-items.result.now
    c.in_ok-ways.ways c.loop-way.way-index c.as_slice.ensures c.in_ok-ways.ensures c.as_slice-way-items.ensures c.loop-way-test.false
    c.loop-way.invariant
