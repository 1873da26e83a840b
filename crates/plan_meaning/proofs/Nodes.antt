-- The types of sets are no part of what a plan means; and each node keeps the same bag.
use Rattle.std.proofs.Common.{◌≡◌, ℕ, List, [], Option, refl, ◌∙◌, ap, ap₂}
use Rattle.cal_value.specs.declared.order.KeyOrder.{KeyOrder}
use Rattle.cal_schema.specs.declared.database.Db.{Db}
use Rattle.cal_schema.specs.declared.join_kind.JoinKind.TheVariants.{Inner}
use Rattle.cal_schema.specs.declared.rel_type.RelType.{RelType}
use Rattle.cal_rel.specs.Info.{Info}
use Rattle.cal_rel.specs.Operators.{Row}
use Rattle.cal_rel.specs.Tiles.{table_rows}
use Rattle.cal_rel.specs.Tree.{filter_by, project_to, aggregate_by, join_on}
use Rattle.cal_rel.proofs.SameBags.{same-unary, same-binary}
use Rattle.cal_rel.proofs.Totals.{Weighs, weighs-refl}
use Rattle.memo_model.specs.Sound.{over}
use Rattle.plan_nodes.specs.declared.nodes.PlanNode.{PlanNode}
use Rattle.plan_nodes.specs.declared.nodes.PlanNode.TheVariants.{MemScan, CsvScan, TileRead, MemFilter, MemProject, CsvProject, ToEnumerable, Filter, Project, NestedLoopJoin, HashJoin, MergeJoin, HashAggregate, SortedAggregate, EmptyRows, Sort}
use Rattle.plan_nodes.specs.Orders.{gives}
use Rattle.plan_nodes.specs.PlanTrees.{PlanTree, nothing, plan, node_width, plan_width, order_of}
use Rattle.plan_meaning.specs.Bags.{instance_rows, node_bag, plan_bag}

module _ (info : Info) (types : List (Option RelType)) where
  node_width-over : (node : PlanNode) (left right : ℕ) → node_width (over info types) node left right ≡ node_width info node left right
  node_width-over (MemScan table) left right = refl
  node_width-over (CsvScan table) left right = refl
  node_width-over (TileRead tile) left right = refl
  node_width-over (MemFilter predicate) left right = refl
  node_width-over (MemProject items) left right = refl
  node_width-over (CsvProject items) left right = refl
  node_width-over ToEnumerable left right = refl
  node_width-over (Filter predicate) left right = refl
  node_width-over (Project items) left right = refl
  node_width-over (NestedLoopJoin kind on) left right = refl
  node_width-over (HashJoin kind on) left right = refl
  node_width-over (MergeJoin on) left right = refl
  node_width-over (HashAggregate groups calls) left right = refl
  node_width-over (SortedAggregate groups calls) left right = refl
  node_width-over (EmptyRows types) left right = refl
  node_width-over (Sort keys) left right = refl

  pub plan_width-over : (tree : PlanTree) → plan_width (over info types) tree ≡ plan_width info tree
  plan_width-over nothing = refl
  plan_width-over (plan node rows part a b) =
      node_width-over node (plan_width (over info types) a) (plan_width (over info types) b) ∙ ap₂ (node_width info node) (plan_width-over a) (plan_width-over b)

  gives-over : (width : ℕ) (node : PlanNode) (order : List KeyOrder) → gives (over info types) width node order ≡ gives info width node order
  gives-over width (MemScan table) order = refl
  gives-over width (CsvScan table) order = refl
  gives-over width (TileRead tile) order = refl
  gives-over width (MemFilter predicate) order = refl
  gives-over width (MemProject items) order = refl
  gives-over width (CsvProject items) order = refl
  gives-over width ToEnumerable order = refl
  gives-over width (Filter predicate) order = refl
  gives-over width (Project items) order = refl
  gives-over width (NestedLoopJoin kind on) order = refl
  gives-over width (HashJoin kind on) order = refl
  gives-over width (MergeJoin on) order = refl
  gives-over width (HashAggregate groups calls) order = refl
  gives-over width (SortedAggregate groups calls) order = refl
  gives-over width (EmptyRows types) order = refl
  gives-over width (Sort keys) order = refl

  pub order_of-over : (tree : PlanTree) → order_of (over info types) tree ≡ order_of info tree
  order_of-over nothing = refl
  order_of-over (plan node rows part a b) =
      gives-over (plan_width (over info types) a) node (order_of (over info types) a) ∙ ap₂ (λ n. gives info n node) (plan_width-over a) (order_of-over a)

  module _ (db : Db) where
    node_bag-over : (node : PlanNode) (width : ℕ) (left right : List Row) → node_bag (over info types) db node width left right ≡ node_bag info db node width left right
    node_bag-over (MemScan table) width left right = refl
    node_bag-over (CsvScan table) width left right = refl
    node_bag-over (TileRead tile) width left right = refl
    node_bag-over (MemFilter predicate) width left right = refl
    node_bag-over (MemProject items) width left right = refl
    node_bag-over (CsvProject items) width left right = refl
    node_bag-over ToEnumerable width left right = refl
    node_bag-over (Filter predicate) width left right = refl
    node_bag-over (Project items) width left right = refl
    node_bag-over (NestedLoopJoin kind on) width left right = refl
    node_bag-over (HashJoin kind on) width left right = refl
    node_bag-over (MergeJoin on) width left right = refl
    node_bag-over (HashAggregate groups calls) width left right = refl
    node_bag-over (SortedAggregate groups calls) width left right = refl
    node_bag-over (EmptyRows types) width left right = refl
    node_bag-over (Sort keys) width left right = refl

    pub plan_bag-over : (tree : PlanTree) → plan_bag (over info types) db tree ≡ plan_bag info db tree
    plan_bag-over nothing = refl
    plan_bag-over (plan node rows part a b) =
        node_bag-over node (plan_width (over info types) b) (plan_bag (over info types) db a) (plan_bag (over info types) db b)
        ∙ ap (λ n. node_bag info db node n (plan_bag (over info types) db a) (plan_bag (over info types) db b)) (plan_width-over b)
        ∙ ap₂ (node_bag info db node (plan_width info b)) (plan_bag-over a) (plan_bag-over b)

-- ---- the same bag

pub node-same : (info : Info) (db : Db) (node : PlanNode) (width : ℕ) (a b c d : List Row) → Weighs a b → Weighs c d → Weighs (node_bag info db node width a c) (node_bag info db node width b d)
node-same info db (MemScan table) width a b c d h k = weighs-refl (table_rows db table)
node-same info db (CsvScan table) width a b c d h k = weighs-refl (table_rows db table)
node-same info db (TileRead tile) width a b c d h k = weighs-refl (instance_rows info db tile)
node-same info db (MemFilter predicate) width a b c d h k = same-unary (filter_by predicate) a b h
node-same info db (MemProject items) width a b c d h k = same-unary (project_to items) a b h
node-same info db (CsvProject items) width a b c d h k = same-unary (project_to items) a b h
node-same info db ToEnumerable width a b c d h k = h
node-same info db (Filter predicate) width a b c d h k = same-unary (filter_by predicate) a b h
node-same info db (Project items) width a b c d h k = same-unary (project_to items) a b h
node-same info db (NestedLoopJoin kind on) width a b c d h k = same-binary (join_on kind on) width a b c d h k
node-same info db (HashJoin kind on) width a b c d h k = same-binary (join_on kind on) width a b c d h k
node-same info db (MergeJoin on) width a b c d h k = same-binary (join_on Inner on) width a b c d h k
node-same info db (HashAggregate groups calls) width a b c d h k = same-unary (aggregate_by groups calls) a b h
node-same info db (SortedAggregate groups calls) width a b c d h k = same-unary (aggregate_by groups calls) a b h
node-same info db (EmptyRows types) width a b c d h k = weighs-refl []
node-same info db (Sort keys) width a b c d h k = h
