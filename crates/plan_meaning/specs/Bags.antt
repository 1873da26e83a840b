-- The rows that a plan means over a database.
use Rattle.std.specs.Prelude.{ℕ, List, [], map, filter, option_map, unwrap_or}
use Rattle.cal_schema.specs.declared.database.Db.{Db}
use Rattle.cal_schema.specs.declared.join_kind.JoinKind.TheVariants.{Inner}
use Rattle.cal_rel.specs.Bag.{rows_of_tile, binary_bag}
use Rattle.cal_rel.specs.Info.{Info}
use Rattle.cal_rel.specs.Operators.{Row, holds, projected, called, grouped}
use Rattle.cal_rel.specs.Tiles.{table_rows}
use Rattle.cal_rel.specs.Tree.{join_on}
use Rattle.plan_nodes.specs.declared.nodes.PlanNode.{PlanNode}
use Rattle.plan_nodes.specs.declared.nodes.PlanNode.TheVariants.{MemScan, CsvScan, TileRead, MemFilter, MemProject, CsvProject, ToEnumerable, Filter, Project, NestedLoopJoin, HashJoin, MergeJoin, HashAggregate, SortedAggregate, EmptyRows, Sort}
use Rattle.plan_nodes.specs.Orders.{tile_of}
use Rattle.plan_nodes.specs.PlanTrees.{PlanTree, nothing, plan, plan_width}

-- of the tile of this instance
abbrev pub instance_rows : Info → Db → ℕ → List Row
instance_rows info db instance = unwrap_or (option_map (λ tile. rows_of_tile info db tile.key) (tile_of info.tiles instance)) []

-- What a node makes of the rows of its inputs, where right rows have so many columns: what the relational node makes that it stands for. Rows
-- that are made enumerable or sorted stay the same bag.
abbrev pub node_bag : Info → Db → PlanNode → ℕ → List Row → List Row → List Row
node_bag info db (MemScan table) width left right = table_rows db table
node_bag info db (CsvScan table) width left right = table_rows db table
node_bag info db (TileRead tile) width left right = instance_rows info db tile
node_bag info db (MemFilter predicate) width left right = filter (holds predicate) left
node_bag info db (MemProject items) width left right = map (projected items) left
node_bag info db (CsvProject items) width left right = map (projected items) left
node_bag info db ToEnumerable width left right = left
node_bag info db (Filter predicate) width left right = filter (holds predicate) left
node_bag info db (Project items) width left right = map (projected items) left
node_bag info db (NestedLoopJoin kind on) width left right = binary_bag (join_on kind on) width left right
node_bag info db (HashJoin kind on) width left right = binary_bag (join_on kind on) width left right
node_bag info db (MergeJoin on) width left right = binary_bag (join_on Inner on) width left right
node_bag info db (HashAggregate groups calls) width left right = grouped groups (called calls) left
node_bag info db (SortedAggregate groups calls) width left right = grouped groups (called calls) left
node_bag info db (EmptyRows types) width left right = []
node_bag info db (Sort keys) width left right = left

abbrev pub plan_bag : Info → Db → PlanTree → List Row
plan_bag info db nothing = []
plan_bag info db (plan node rows part a b) = node_bag info db node (plan_width info b) (plan_bag info db a) (plan_bag info db b)
