-- The cheapest plan of a set.
use Rattle.std.specs.Prelude.{◌≡◌, ℕ, ◌+◌, ◌^◌, ◌++◌, List, Option, Some, None, MatchOption, length, map, slice_get}
use Rattle.cal_value.specs.declared.order.KeyOrder.{KeyOrder}
use Rattle.cheapest_derivations.specs.declared.table.Edge.{Edge}
use Rattle.cheapest_derivations.specs.declared.table.Cell.{Cell}
use Rattle.cheapest_derivations.specs.declared.table.Step.{Step}
use Rattle.cheapest_derivations.specs.Derivations as d
use Rattle.cheapest_derivations.specs.Tables.{Spells, IsSound, IsLeast}
use Rattle.plan_nodes.specs.declared.plan.Plan.{Plan}
use Rattle.plan_nodes.specs.PlanTrees.{PlanTree, cost}
use Rattle.plan_nodes.specs.Seen.{plan_tree}
use Rattle.phys_plan.specs.declared.alternatives.State.{State}
use Rattle.phys_plan.specs.Spaces.{Space, HasWidths}
use Rattle.phys_plan.specs.Plans.{rows_asked}
use Rattle.phys_plan.specs.Realised.{IsPlanOf, IsLeastCost}
use Rattle.volcano_best.specs.declared.graph.Root.{Root}
use Rattle.volcano_best.specs.declared.planned.Planned.{Planned}
use Rattle.volcano_best.specs.Graphs.{IsGraph, IsFull, seen_of}

-- a plan of the set in this order, with what it costs, and no such plan costs less
pub record IsCheapest (space : Space) (set : ℕ) (order : List KeyOrder) (best : Planned) : Type 0 where
  pub tree : PlanTree
  pub is : plan_tree best.plan ≡ Some tree
  pub plan : IsPlanOf space set order tree
  pub least : IsLeastCost space set order best.cost
  pub cost : best.cost ≡ cost tree

pub record HasNoPlan (space : Space) (set : ℕ) (order : List KeyOrder) : Type 0 where
  pub none : (tree : PlanTree) → IsPlanOf space set order tree → ⊥

-- where members have as many columns as their sets: a cheapest plan, or None where there is no plan at all
pub record IsAnswer (space : Space) (set : ℕ) (order : List KeyOrder) (found : Option Planned) : Type 0 where
  pub of : HasWidths space → MatchOption found (HasNoPlan space set order) (IsCheapest space set order)

-- ---- for the code

abbrev pub root_state : ℕ → List KeyOrder → State
root_state set order = record { ask = rows_asked set order; need = order }

-- the graph from the root's state on, and a table of its cheapest derivations
pub record IsSolved (space : Space) (set : ℕ) (order : List KeyOrder) (states : List State) (roots : List Root) (edges : List Edge) (cells : List (Option Cell))
    (steps : List Step) : Type 0 where
  pub root : slice_get states 0 ≡ Some (root_state set order)
  pub even : length roots ≡ length edges
  pub graph : IsGraph space states roots edges
  pub full : IsFull space states roots edges
  pub wide : length cells ≡ length states
  pub sound : IsSound (2 ^ 100) edges cells steps
  pub least : IsLeast (2 ^ 100) edges cells

abbrev pub how_many : Option ℕ → ℕ
how_many None = 0
how_many (Some place) = 1

-- one plan more, that of the derivation that ends at the place; none more where there is no place
pub record IsPlanAdded (steps : List Step) (roots : List Root) (place : Option ℕ) (old new : List Plan) : Type 0 where
  pub added : List Plan
  pub is : new ≡ old ++ added
  pub many : length added ≡ how_many place
  pub seen : (t : d.Tree) → Spells steps place t → map plan_tree added ≡ seen_of roots t

-- how many steps there can be up to a place
abbrev pub size : Option ℕ → ℕ
size None = 0
size (Some k) = k + 1
