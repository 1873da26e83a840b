-- When a plan realises a set of a memo with what is asked of its rows.
use Rattle.std.specs.Prelude.{◌≡◌, ◌≤◌, ℕ, IsTrue, List, Option, Some, None, slice_get}
use Rattle.cal_value.specs.declared.order.KeyOrder.{KeyOrder}
use Rattle.plan_nodes.specs.Orders.{is_prefix}
use Rattle.plan_nodes.specs.PlanTrees.{PlanTree, nothing, plan, order_of, cost}
use Rattle.phys_plan.specs.declared.ways.Ask.{Ask}
use Rattle.phys_plan.specs.declared.ways.Way.{Way}
use Rattle.phys_plan.specs.Spaces.{Space, estimate, part_len}
use Rattle.phys_plan.specs.Ways.{fits, ways}
use Rattle.phys_plan.specs.Plans.{rows_asked}

-- one of the set's roots, of the kind that is asked
pub record IsRoot (space : Space) (q : Ask) (w : Way) : Type 0 where
  pub at : ℕ
  pub among : slice_get (ways space q.set q.order) at ≡ Some w
  pub fit : IsTrue (fits q.want w.node)

-- over the set's estimate, the rows of the part that it reads, and its inputs
abbrev pub rooted : Space → Ask → Way → PlanTree → PlanTree → PlanTree
rooted space q w a b = plan w.node (estimate space q.set) (part_len space w.node) a b

-- Where nothing is asked there is nothing. Else the root is one of the set's, its inputs realise what it asks, and the rows that it gives
-- are sorted as asked, or further.
pub data Realised (space : Space) : Option Ask → PlanTree → Type 0 where
  not_asked : Realised space None nothing
  by_root : (q : Ask) (w : Way) (a b : PlanTree) → IsRoot space q w → IsTrue (is_prefix q.order (order_of space.info (rooted space q w a b)))
      → Realised space w.first a → Realised space w.second b → Realised space (Some q) (rooted space q w a b)

-- a plan of enumerable rows of the set, in the asked order
pub record IsPlanOf (space : Space) (set : ℕ) (order : List KeyOrder) (tree : PlanTree) : Type 0 where
  pub realised : Realised space (Some (rows_asked set order)) tree

-- some plan of the set, in the asked order
pub record HasPlan (space : Space) (set : ℕ) (order : List KeyOrder) : Type 0 where
  pub tree : PlanTree
  pub plan_of : IsPlanOf space set order tree

-- no plan of the set, in the asked order, costs less than n
pub record IsLeastCost (space : Space) (set : ℕ) (order : List KeyOrder) (n : ℕ) : Type 0 where
  pub least : (tree : PlanTree) → IsPlanOf space set order tree → n ≤ cost tree
