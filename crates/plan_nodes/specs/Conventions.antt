-- In which form a node hands on its rows, and when given traits satisfy asked ones.
use Rattle.std.specs.Prelude.{Bool, true, false, ◌&&◌}
use Rattle.plan_nodes.specs.declared.nodes.PlanNode.{PlanNode}
use Rattle.plan_nodes.specs.declared.nodes.PlanNode.TheVariants.{MemScan, CsvScan, TileRead, MemFilter, MemProject, CsvProject, ToEnumerable, Filter, Project, NestedLoopJoin, HashJoin, MergeJoin, HashAggregate, SortedAggregate, EmptyRows, Sort}
use Rattle.plan_nodes.specs.declared.traits.Convention.{Convention}
use Rattle.plan_nodes.specs.declared.traits.Convention.TheVariants.{Csv, Mem, Tile, Enumerable}
use Rattle.plan_nodes.specs.declared.traits.Traits.{Traits}
use Rattle.plan_nodes.specs.Orders.{is_prefix}

abbrev pub same_convention : Convention → Convention → Bool
same_convention Csv Csv = true
same_convention Mem Mem = true
same_convention Tile Tile = true
same_convention Enumerable Enumerable = true
same_convention c d = false

abbrev pub convention_of : PlanNode → Convention
convention_of (MemScan table) = Mem
convention_of (CsvScan table) = Csv
convention_of (TileRead tile) = Tile
convention_of (MemFilter predicate) = Mem
convention_of (MemProject items) = Mem
convention_of (CsvProject items) = Csv
convention_of ToEnumerable = Enumerable
convention_of (Filter predicate) = Enumerable
convention_of (Project items) = Enumerable
convention_of (NestedLoopJoin kind on) = Enumerable
convention_of (HashJoin kind on) = Enumerable
convention_of (MergeJoin on) = Enumerable
convention_of (HashAggregate groups calls) = Enumerable
convention_of (SortedAggregate groups calls) = Enumerable
convention_of (EmptyRows types) = Enumerable
convention_of (Sort keys) = Enumerable

-- one convention, and rows that are sorted as asked, or further
abbrev pub satisfies : Traits → Traits → Bool
satisfies given asked = same_convention given.convention asked.convention && is_prefix asked.collation given.collation
