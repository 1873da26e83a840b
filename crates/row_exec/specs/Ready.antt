-- What a node asks of the rows of its inputs.
use Rattle.std.specs.Prelude.{◌≡◌, ℕ, true, List, ◌++◌, length, map, All, ⊤}
use Rattle.cal_value.specs.declared.kind.SqlType.{SqlType}
use Rattle.cal_value.specs.Types.{HasTypes}
use Rattle.cal_expr.specs.declared.expr.Expr.{Expr}
use Rattle.cal_expr.specs.WellFormed.{IsWellFormed}
use Rattle.cal_schema.specs.declared.agg_call.AggCall.{AggCall}
use Rattle.cal_rel.specs.Operators.{Row}
use Rattle.cal_rel.specs.Typing.{is_condition, pairs_of}
use Rattle.exec_ops.specs.Ready.{CanGroup}
use Rattle.exec_ops.specs.Sort.{IsSortedOn}
use Rattle.plan_nodes.specs.declared.nodes.PlanNode.{PlanNode}
use Rattle.plan_nodes.specs.declared.nodes.PlanNode.TheVariants.{MemScan, CsvScan, TileRead, MemFilter, MemProject, CsvProject, ToEnumerable, Filter, Project, NestedLoopJoin, HashJoin, MergeJoin, HashAggregate, SortedAggregate, EmptyRows, Sort}

-- the rows of both sides have types, over whose columns the condition is BOOLEAN, and the left ones so many columns
pub record CanJoinOn (on : Expr) (width : ℕ) (left right : List Row) : Type 0 where
  pub left_columns : List SqlType
  pub right_columns : List SqlType
  pub left_typed : All (λ row. HasTypes row left_columns) left
  pub right_typed : All (λ row. HasTypes row right_columns) right
  pub condition : is_condition on (left_columns ++ right_columns) ≡ true
  pub wide : length left_columns ≡ width

-- besides, the rows of each side are sorted on its columns that the condition equates
pub record CanMergeOn (on : Expr) (width : ℕ) (left right : List Row) : Type 0 where
  pub joins : CanJoinOn on width left right
  pub left_sorted : IsSortedOn (map (λ p. p.left) (pairs_of width on)) left
  pub right_sorted : IsSortedOn (map (λ p. p.right) (pairs_of width on)) right

-- the rows are sorted on the columns of the groups, over which each call has a type
pub record CanGroupSorted (groups : List ℕ) (calls : List AggCall) (rows : List Row) : Type 0 where
  pub typed : CanGroup calls rows
  pub sorted : IsSortedOn groups rows

-- the node has one input, and can be run over rows of it
abbrev pub CanRunOne : PlanNode → List Row → Type 0
CanRunOne (MemScan table) rows = ⊥
CanRunOne (CsvScan table) rows = ⊥
CanRunOne (TileRead tile) rows = ⊥
CanRunOne (MemFilter predicate) rows = ⊥
CanRunOne (MemProject items) rows = ⊥
CanRunOne (CsvProject items) rows = ⊥
CanRunOne ToEnumerable rows = ⊤
CanRunOne (Filter predicate) rows = All (λ row. IsWellFormed predicate row) rows
CanRunOne (Project items) rows = All (λ row. All (λ e. IsWellFormed e row) items) rows
CanRunOne (NestedLoopJoin kind on) rows = ⊥
CanRunOne (HashJoin kind on) rows = ⊥
CanRunOne (MergeJoin on) rows = ⊥
CanRunOne (HashAggregate groups calls) rows = CanGroup calls rows
CanRunOne (SortedAggregate groups calls) rows = CanGroupSorted groups calls rows
CanRunOne (EmptyRows types) rows = ⊥
CanRunOne (Sort keys) rows = ⊤

-- the node has two inputs, and can be run over rows of them, where left rows have so many columns
abbrev pub CanRunTwo : PlanNode → ℕ → List Row → List Row → Type 0
CanRunTwo (MemScan table) width left right = ⊥
CanRunTwo (CsvScan table) width left right = ⊥
CanRunTwo (TileRead tile) width left right = ⊥
CanRunTwo (MemFilter predicate) width left right = ⊥
CanRunTwo (MemProject items) width left right = ⊥
CanRunTwo (CsvProject items) width left right = ⊥
CanRunTwo ToEnumerable width left right = ⊥
CanRunTwo (Filter predicate) width left right = ⊥
CanRunTwo (Project items) width left right = ⊥
CanRunTwo (NestedLoopJoin kind on) width left right = CanJoinOn on width left right
CanRunTwo (HashJoin kind on) width left right = CanJoinOn on width left right
CanRunTwo (MergeJoin on) width left right = CanMergeOn on width left right
CanRunTwo (HashAggregate groups calls) width left right = ⊥
CanRunTwo (SortedAggregate groups calls) width left right = ⊥
CanRunTwo (EmptyRows types) width left right = ⊥
CanRunTwo (Sort keys) width left right = ⊥
