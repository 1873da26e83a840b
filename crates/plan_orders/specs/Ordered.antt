-- Rows in order, and the nodes that make theirs so.
use Rattle.std.specs.Prelude.{◌≡◌, ℕ, List, length, All, ⊤}
use Rattle.cal_value.specs.declared.order.KeyOrder.{KeyOrder}
use Rattle.cal_value.specs.Order.{IsInOrder}
use Rattle.cal_rel.specs.Operators.{Row}
use Rattle.plan_nodes.specs.declared.nodes.PlanNode.{PlanNode}
use Rattle.plan_nodes.specs.declared.nodes.PlanNode.TheVariants.{MemScan, CsvScan, TileRead, MemFilter, MemProject, CsvProject, ToEnumerable, Filter, Project, NestedLoopJoin, HashJoin, MergeJoin, HashAggregate, SortedAggregate, EmptyRows, Sort}

-- each row has so many columns
abbrev pub AreWide : ℕ → List Row → Type 0
AreWide width rows = All (λ row. length row ≡ width) rows

-- rows of so many columns, in this order
pub record AreSorted (width : ℕ) (order : List KeyOrder) (rows : List Row) : Type 0 where
  pub wide : AreWide width rows
  pub sorted : IsInOrder order rows

-- each node but Sort keeps its rows in the order in which it makes them
abbrev pub IsNoSort : PlanNode → Type 0
IsNoSort (MemScan table) = ⊤
IsNoSort (CsvScan table) = ⊤
IsNoSort (TileRead tile) = ⊤
IsNoSort (MemFilter predicate) = ⊤
IsNoSort (MemProject items) = ⊤
IsNoSort (CsvProject items) = ⊤
IsNoSort ToEnumerable = ⊤
IsNoSort (Filter predicate) = ⊤
IsNoSort (Project items) = ⊤
IsNoSort (NestedLoopJoin kind on) = ⊤
IsNoSort (HashJoin kind on) = ⊤
IsNoSort (MergeJoin on) = ⊤
IsNoSort (HashAggregate groups calls) = ⊤
IsNoSort (SortedAggregate groups calls) = ⊤
IsNoSort (EmptyRows types) = ⊤
IsNoSort (Sort keys) = ⊥
