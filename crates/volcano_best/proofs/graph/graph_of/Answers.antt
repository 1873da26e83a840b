use Rattle.std.proofs.Common.{◌≤◌, length, arith}
use Rattle.phys_plan.specs.Seen.{space_of}
use Rattle.volcano_best.proofs.PartialSteps.{partial-full}
use Rattle.volcano_best.proofs.graph.graph_of.Goals as goal

pub returns-clause-full : goal.returns-clause-full
returns-clause-full c =
    let all : length c.states.graph.states ≤ c.states.at = omega arith in
    partial-full (space_of c.args.space.now) c.states.graph.states c.states.graph.roots c.states.graph.edges c.states.at c.states.invariant.partial all
