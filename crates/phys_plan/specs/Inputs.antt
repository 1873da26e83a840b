-- What ways ask of their inputs.
use Rattle.std.specs.Prelude.{◌≡◌, ℕ, ◌++◌, List, [], ◌∷◌, Option, Some, None, ⊤}
use Rattle.cal_value.specs.declared.order.KeyOrder.{KeyOrder}
use Rattle.cal_rel.specs.Info.{Info}
use Rattle.plan_nodes.specs.declared.nodes.PlanNode.{PlanNode}
use Rattle.plan_nodes.specs.Orders.{asked_order, below}
use Rattle.plan_nodes.specs.PlanTrees.{PlanTree, nothing, plan}
use Rattle.plan_nodes.specs.Seen.{planned}
use Rattle.phys_plan.specs.declared.ways.Ask.{Ask}
use Rattle.phys_plan.specs.declared.ways.Way.{Way}
use Rattle.phys_plan.specs.Spaces.{Space}
use Rattle.phys_plan.specs.Plans.{Realises}
use Rattle.phys_plan.specs.Alternatives.{asked_width}

-- what is asked is this order
abbrev pub IsOrderOf : Option Ask → List KeyOrder → Type 0
IsOrderOf None order = order ≡ []
IsOrderOf (Some ask) order = ask.order ≡ order

-- without an input nothing is needed from below
abbrev pub EndsAt : Info → Option Ask → PlanNode → Type 0
EndsAt info None node = (need rest : List KeyOrder) → below info 0 node need ≡ Some rest → rest ≡ []
EndsAt info (Some ask) node = ⊤

-- the list of the inputs that are there
abbrev pub there : PlanTree → List (Option PlanTree)
there nothing = []
there (plan node rows part a b) = Some (plan node rows part a b) ∷ []

-- The first input is asked for the order that the node's row asks, a second one comes only with a first one, and plans of what is asked
-- are as many as the node's row asks.
pub record IsRow (space : Space) (w : Way) : Type 0 where
  pub order : IsOrderOf w.first (asked_order (asked_width space w.first) w.node)
  pub ends : EndsAt space.info w.first w.node
  pub second : w.first ≡ None → w.second ≡ None
  pub inputs : (rows part : ℕ) (a b : PlanTree) → Realises space w.first a → Realises space w.second b
      → planned w.node rows part (there a ++ there b) ≡ Some (plan w.node rows part a b)
