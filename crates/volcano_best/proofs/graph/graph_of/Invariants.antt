use Rattle.phys_plan.specs.Seen.{space_of}
use Rattle.std.proofs.Common.{◌≡◌, ◌-◌, ◌^◌, Some}
use Rattle.std.specs.List.{slice_get}
use Rattle.volcano_best.specs.Graphs.{IsPartial}
use Rattle.volcano_best.proofs.graph.graph_of.Given as goal

abbrev pub invariant-states : goal.invariant-states
invariant-states l = record {
  root : slice_get l.graph.states 0 ≡ Some l.fn.state;
  partial : IsPartial (space_of l.space) l.graph.states l.graph.roots l.graph.edges l.at 0;
}

abbrev pub decreases-states : goal.decreases-states
decreases-states l = 2 ^ 32 - l.at
