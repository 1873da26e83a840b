use Rattle.phys_plan.specs.Seen.{space_of}
use Rattle.volcano_best.specs.Graphs.{AreKept, IsPartial}
use Rattle.volcano_best.proofs.graph.expand.Given as goal

abbrev pub invariant-loop-alternative : goal.invariant-loop-alternative
invariant-loop-alternative l = record {
  kept : AreKept l.initial.graph.states l.graph.states;
  partial : IsPartial (space_of l.space) l.graph.states l.graph.roots l.graph.edges l.at l.alternative-index;
}
