-- A plan with its list of inputs, as plain data: None where some node has another number of inputs than its row asks.
use Rattle.std.specs.Prelude.{◌≡◌, ℕ, ◌+◌, sum, List, [], ◌∷◌, Option, Some, None}
use Rattle.cal_value.specs.declared.order.KeyOrder.{KeyOrder}
use Rattle.cal_rel.specs.Info.{Info}
use Rattle.plan_nodes.specs.declared.nodes.PlanNode.{PlanNode}
use Rattle.plan_nodes.specs.declared.nodes.PlanNode.TheVariants.{MemScan, CsvScan, TileRead, MemFilter, MemProject, CsvProject, ToEnumerable, Filter, Project, NestedLoopJoin, HashJoin, MergeJoin, HashAggregate, SortedAggregate, EmptyRows, Sort}
use Rattle.plan_nodes.specs.declared.plan.Plan.{Plan}
use Rattle.plan_nodes.specs.declared.plan.Plan.TheOpen.{Plan-F}
use Rattle.plan_nodes.specs.declared.plan.Plan.TheFolds.{fold-Plan}
use Rattle.plan_nodes.specs.declared.traits.Traits.{Traits}
use Rattle.plan_nodes.specs.Orders.{gives}
use Rattle.plan_nodes.specs.PlanTrees.{PlanTree, nothing, plan, node_width, plan_width, order_of, cost, delivers}

abbrev pub over_none : PlanNode → ℕ → ℕ → List (Option PlanTree) → Option PlanTree
over_none node rows part [] = Some (plan node rows part nothing nothing)
over_none node rows part (x ∷ xs) = None

abbrev pub over_one : PlanNode → ℕ → ℕ → List (Option PlanTree) → Option PlanTree
over_one node rows part (Some a ∷ []) = Some (plan node rows part a nothing)
over_one node rows part inputs = None

abbrev pub over_two : PlanNode → ℕ → ℕ → List (Option PlanTree) → Option PlanTree
over_two node rows part (Some a ∷ Some b ∷ []) = Some (plan node rows part a b)
over_two node rows part inputs = None

-- as many inputs as the node's row asks
abbrev pub planned : PlanNode → ℕ → ℕ → List (Option PlanTree) → Option PlanTree
planned (MemScan table) rows part inputs = over_none (MemScan table) rows part inputs
planned (CsvScan table) rows part inputs = over_none (CsvScan table) rows part inputs
planned (TileRead tile) rows part inputs = over_none (TileRead tile) rows part inputs
planned (MemFilter predicate) rows part inputs = over_one (MemFilter predicate) rows part inputs
planned (MemProject items) rows part inputs = over_one (MemProject items) rows part inputs
planned (CsvProject items) rows part inputs = over_one (CsvProject items) rows part inputs
planned ToEnumerable rows part inputs = over_one ToEnumerable rows part inputs
planned (Filter predicate) rows part inputs = over_one (Filter predicate) rows part inputs
planned (Project items) rows part inputs = over_one (Project items) rows part inputs
planned (NestedLoopJoin kind on) rows part inputs = over_two (NestedLoopJoin kind on) rows part inputs
planned (HashJoin kind on) rows part inputs = over_two (HashJoin kind on) rows part inputs
planned (MergeJoin on) rows part inputs = over_two (MergeJoin on) rows part inputs
planned (HashAggregate groups calls) rows part inputs = over_one (HashAggregate groups calls) rows part inputs
planned (SortedAggregate groups calls) rows part inputs = over_one (SortedAggregate groups calls) rows part inputs
planned (EmptyRows types) rows part inputs = over_none (EmptyRows types) rows part inputs
planned (Sort keys) rows part inputs = over_one (Sort keys) rows part inputs

abbrev pub tree_step : Plan-F (Option PlanTree) → Option PlanTree
tree_step f = planned f.node f.rows f.part_rows f.inputs

-- the tree that a plan is
unfoldable pub plan_tree : Plan → Option PlanTree
plan_tree = fold-Plan (Option PlanTree) tree_step

-- n is what the plan costs, where each node has as many inputs as its row asks
pub record IsCost (p : Plan) (n : ℕ) : Type 0 where
  pub of : (tree : PlanTree) → plan_tree p ≡ Some tree → n ≡ cost tree

-- these are the traits that the plan gives, where each node has as many inputs as its row asks
pub record AreTraits (info : Info) (p : Plan) (traits : Traits) : Type 0 where
  pub of : (tree : PlanTree) → plan_tree p ≡ Some tree → traits ≡ delivers info tree

-- for the code: how many columns the plan's rows have, and their order, where each node has as many inputs as its row asks
pub record IsGiven (info : Info) (p : Plan) (width : ℕ) (order : List KeyOrder) : Type 0 where
  pub columns : (tree : PlanTree) → plan_tree p ≡ Some tree → width ≡ plan_width info tree
  pub sorted : (tree : PlanTree) → plan_tree p ≡ Some tree → order ≡ order_of info tree

-- for the code: the columns and the order that a node gives, over so many columns and this order of its first input and so many columns of
-- its second
pub record IsOver (info : Info) (node : PlanNode) (left : ℕ) (o : List KeyOrder) (right width : ℕ) (order : List KeyOrder) : Type 0 where
  pub columns : width ≡ node_width info node left right
  pub sorted : order ≡ gives info left node o

-- ---- reads

abbrev pub reads_step : Plan-F ℕ → ℕ
reads_step f = f.part_rows + sum f.inputs

-- the sum of the rows of the parts that a plan's nodes read
unfoldable pub reads : Plan → ℕ
reads = fold-Plan ℕ reads_step
