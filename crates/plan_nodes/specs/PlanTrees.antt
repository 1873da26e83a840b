-- Plans as plain data: how many columns their rows have, the order in which they come, what they cost and what they read.
use Rattle.std.specs.Prelude.{ℕ, ◌+◌, List, [], length, option_map, unwrap_or}
use Rattle.cal_value.specs.declared.order.KeyOrder.{KeyOrder}
use Rattle.cal_rel.specs.Bag.{table_width, tile_width}
use Rattle.cal_rel.specs.Info.{Info}
use Rattle.plan_nodes.specs.declared.nodes.PlanNode.{PlanNode}
use Rattle.plan_nodes.specs.declared.nodes.PlanNode.TheVariants.{MemScan, CsvScan, TileRead, MemFilter, MemProject, CsvProject, ToEnumerable, Filter, Project, NestedLoopJoin, HashJoin, MergeJoin, HashAggregate, SortedAggregate, EmptyRows, Sort}
use Rattle.plan_nodes.specs.declared.traits.Convention.{Convention}
use Rattle.plan_nodes.specs.declared.traits.Convention.TheVariants.{Enumerable}
use Rattle.plan_nodes.specs.declared.traits.Traits.{Traits}
use Rattle.plan_nodes.specs.Conventions.{convention_of}
use Rattle.plan_nodes.specs.Orders.{tile_of, gives}
use Rattle.plan_nodes.specs.Weights.{cut, weight}

-- a node with the estimate of its set, the rows of the part that it reads, and its inputs; `nothing` in the place of one that isn't there
pub data PlanTree : Type 0 where
  nothing : PlanTree
  plan : PlanNode → ℕ → ℕ → PlanTree → PlanTree → PlanTree

abbrev pub rows_of : PlanTree → ℕ
rows_of nothing = 0
rows_of (plan node rows part a b) = rows

-- ---- columns

-- of the tile of this instance
abbrev pub instance_width : Info → ℕ → ℕ
instance_width info instance = unwrap_or (option_map (λ tile. tile_width info tile.key) (tile_of info.tiles instance)) 0

-- over inputs that have so many
abbrev pub node_width : Info → PlanNode → ℕ → ℕ → ℕ
node_width info (MemScan table) left right = table_width info.schema table
node_width info (CsvScan table) left right = table_width info.schema table
node_width info (TileRead tile) left right = instance_width info tile
node_width info (MemFilter predicate) left right = left
node_width info (MemProject items) left right = length items
node_width info (CsvProject items) left right = length items
node_width info ToEnumerable left right = left
node_width info (Filter predicate) left right = left
node_width info (Project items) left right = length items
node_width info (NestedLoopJoin kind on) left right = left + right
node_width info (HashJoin kind on) left right = left + right
node_width info (MergeJoin on) left right = left + right
node_width info (HashAggregate groups calls) left right = length groups + length calls
node_width info (SortedAggregate groups calls) left right = length groups + length calls
node_width info (EmptyRows types) left right = length types
node_width info (Sort keys) left right = left

-- how many columns a plan's rows have
abbrev pub plan_width : Info → PlanTree → ℕ
plan_width info nothing = 0
plan_width info (plan node rows part a b) = node_width info node (plan_width info a) (plan_width info b)

-- ---- traits

-- the order of a plan's rows
abbrev pub order_of : Info → PlanTree → List KeyOrder
order_of info nothing = []
order_of info (plan node rows part a b) = gives info (plan_width info a) node (order_of info a)

abbrev pub form_of : PlanTree → Convention
form_of nothing = Enumerable
form_of (plan node rows part a b) = convention_of node

-- the traits that a plan gives
abbrev pub delivers : Info → PlanTree → Traits
delivers info tree = record { convention = form_of tree; collation = order_of info tree }

-- ---- cost and reads

-- the sum of the weights
abbrev pub weights : PlanTree → ℕ
weights nothing = 0
weights (plan node rows part a b) = weight node rows (rows_of a) (rows_of b) part + weights a + weights b

abbrev pub cost : PlanTree → ℕ
cost tree = cut (weights tree)

-- the sum of the rows of the parts that its nodes read
abbrev pub tree_reads : PlanTree → ℕ
tree_reads nothing = 0
tree_reads (plan node rows part a b) = part + tree_reads a + tree_reads b
