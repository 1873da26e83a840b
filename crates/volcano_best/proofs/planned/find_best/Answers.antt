use Rattle.std.proofs.Common.{◌≡◌, true, length, subst, sym, List}
use Rattle.cheapest_derivations.specs.declared.table.Edge.{Edge}
use Rattle.cheapest_derivations.specs.Derivations.{AreWithin}
use Rattle.plan_nodes.specs.Orders.{is_prefix}
use Rattle.plan_nodes.proofs.OrderLemmas.{prefix-self}
use Rattle.phys_plan.specs.declared.alternatives.State.{State}
use Rattle.phys_plan.specs.Seen.{space_of}
use Rattle.volcano_best.proofs.SolvedLemmas.{graph-within}
use Rattle.volcano_best.proofs.planned.find_best.Goals as goal

pub graph_of-requires : goal.graph_of-requires
graph_of-requires c =
    let P : State → Type 0 = λ s. is_prefix s.ask.order s.need ≡ true in
    subst P (sym c.in_ok-state.ensures) (prefix-self c.args.order.now)

pub cheapest-requires : goal.cheapest-requires
cheapest-requires c =
    let g = c.in_ok-graph.graph in
    let wide : length g.states ≡ c.in_ok-states.states = c.in_ok-states.ensures in
    let P : List Edge → Type 0 = λ es. AreWithin es c.in_ok-states.states in
    subst P (sym c.as_slice.ensures) (graph-within (space_of c.args.space.now) g.states g.roots g.edges c.in_ok-states.states c.in_ok-graph.ensures.graph wide)
