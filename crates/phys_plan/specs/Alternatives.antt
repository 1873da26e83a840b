-- What the search for the cheapest plan goes over: what is asked at a place, with the order that has to come out there.
use Rattle.std.specs.Prelude.{◌≡◌, ℕ, IsTrue, if◌then◌else◌, List, [], ◌∷◌, Option, Some, None, option_map}
use Rattle.std.specs.List.{flat_map}
use Rattle.cal_value.specs.declared.order.KeyOrder.{KeyOrder}
use Rattle.cal_rel.specs.Bag.{set_width}
use Rattle.plan_nodes.specs.Orders.{is_prefix, below}
use Rattle.plan_nodes.specs.PlanTrees.{PlanTree, order_of}
use Rattle.plan_nodes.specs.Weights.{cut, weight}
use Rattle.phys_plan.specs.declared.ways.Ask.{Ask}
use Rattle.phys_plan.specs.declared.ways.Way.{Way}
use Rattle.phys_plan.specs.declared.alternatives.State.{State}
use Rattle.phys_plan.specs.declared.alternatives.Alternative.{Alternative}
use Rattle.phys_plan.specs.Spaces.{Space, estimate, part_len}
use Rattle.phys_plan.specs.Ways.{fits, ways}
use Rattle.phys_plan.specs.Plans.{Realises}

-- a plan that realises what is asked, and gives the needed order
pub record Meets (space : Space) (s : State) (tree : PlanTree) : Type 0 where
  pub realised : Realises space (Some s.ask) tree
  pub ordered : IsTrue (is_prefix s.need (order_of space.info tree))

abbrev pub state : List KeyOrder → Ask → State
state need ask = record { ask = ask; need = need }

abbrev pub as_asked : Ask → State
as_asked ask = record { ask = ask; need = ask.order }

abbrev pub asked_width : Space → Option Ask → ℕ
asked_width space None = 0
asked_width space (Some ask) = set_width space.info ask.set

abbrev pub asked_rows : Space → Option Ask → ℕ
asked_rows space None = 0
asked_rows space (Some ask) = estimate space ask.set

abbrev pub weight_of : Space → State → Way → ℕ
weight_of space s w = cut (weight w.node (estimate space s.ask.set) (asked_rows space w.first) (asked_rows space w.second) (part_len space w.node))

abbrev pub alternative : Space → State → Way → Option (List KeyOrder) → List Alternative
alternative space s w None = []
alternative space s w (Some need) = record {
  node = w.node;
  rows = estimate space s.ask.set;
  part_rows = part_len space w.node;
  weight = weight_of space s w;
  first = option_map (state need) w.first;
  second = option_map as_asked w.second;
} ∷ []

-- what a way makes of a state: nothing, or one alternative
abbrev pub meets_by : Space → State → Way → List Alternative
meets_by space s w =
    alternative space s w (if fits s.ask.want w.node then below space.info (asked_width space w.first) w.node s.need else None)

abbrev pub alternatives : Space → State → List Alternative
alternatives space s = flat_map (meets_by space s) (ways space s.ask.set s.ask.order)
