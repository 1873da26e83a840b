-- Each node but Sort makes rows in the order that the plan gives, and a MergeJoin and a SortedAggregate have inputs that are sorted as they
-- need.
use Rattle.std.proofs.Common.{◌≡◌, ℕ, true, false, List, [], length, map, filter}
use Rattle.std.proofs.lemmas.List.Elements.{recursion_from_All}
use Rattle.cal_value.specs.declared.order.KeyOrder.{KeyOrder}
use Rattle.cal_value.specs.Order.{IsInOrder}
use Rattle.cal_expr.specs.declared.expr.Expr.{Expr}
use Rattle.cal_schema.specs.declared.agg_call.AggCall.{AggCall}
use Rattle.cal_schema.specs.declared.database.Db.{Db}
use Rattle.cal_schema.specs.declared.join_kind.JoinKind.{JoinKind}
use Rattle.cal_schema.specs.declared.join_kind.JoinKind.TheVariants.{Inner}
use Rattle.cal_rel.specs.Info.{Info}
use Rattle.cal_rel.specs.Operators.{Row, holds, called}
use Rattle.cal_rel.specs.Tiles.{table_rows}
use Rattle.cal_rel.specs.Typing.{pairs_of}
use Rattle.exec_ops.specs.Sort.{IsSortedOn}
use Rattle.plan_nodes.specs.declared.nodes.PlanNode.{PlanNode}
use Rattle.plan_nodes.specs.declared.nodes.PlanNode.TheVariants.{MemScan, CsvScan, TileRead, MemFilter, MemProject, CsvProject, ToEnumerable, Filter, Project, NestedLoopJoin, HashJoin, MergeJoin, HashAggregate, SortedAggregate, EmptyRows, Sort}
use Rattle.plan_nodes.specs.Orders.{ascending_by, left_order, right_order, gives}
use Rattle.plan_nodes.specs.PlanTrees.{PlanTree, nothing, plan, plan_width, order_of}
use Rattle.plan_meaning.specs.Bags.{node_bag, plan_bag}
use Rattle.plan_meaning.specs.WellFormed.{IsKept, IsWellFormed, IsWellFormedNode}
use Rattle.plan_orders.specs.Ordered.{AreSorted, IsNoSort}
use Rattle.plan_orders.proofs.Rising.{Rises-filter}
use Rattle.plan_orders.proofs.UpTo.{IsUpTo, rises-from, order-from, in-none, prefix-order}
use Rattle.plan_orders.proofs.Projects.{project-order}
use Rattle.plan_orders.proofs.Joins.{join-order}
use Rattle.plan_orders.proofs.Groups.{group-order}
use Rattle.plan_orders.proofs.Tiles.{tile-order}
use Rattle.plan_orders.proofs.Keys.{prefix-within, order-within}
use Rattle.plan_orders.proofs.Widths.{plan-wide}

no-true : false ≡ true → ⊥
no-true e = absurd (Prim.cc)

filter-order : (predicate : Expr) (keys : List KeyOrder) (rows : List Row) → IsInOrder keys rows → IsInOrder keys (filter (holds predicate) rows)
filter-order predicate keys rows h = order-from keys (filter (holds predicate) rows) (Rises-filter (IsUpTo keys) (holds predicate) rows (rises-from keys rows h))

loop-order : (info : Info) (db : Db) (kind : JoinKind) (on : Expr) (n : ℕ) (a : PlanTree) (left right : List Row) → IsWellFormed info db a → AreSorted (plan_width info a) (order_of info a) left
    → IsInOrder (order_of info a) (node_bag info db (NestedLoopJoin kind on) n left right)
loop-order info db kind on n a left right formed h =
    join-order kind on n (plan_width info a) (order_of info a) left right (order-within info db a formed) (recursion_from_All (λ row. length row ≡ plan_width info a) left h.wide) h.sorted

merge-order : (info : Info) (db : Db) (on : Expr) (part : ℕ) (a b : PlanTree) (left right : List Row) → IsWellFormedNode info db (MergeJoin on) part a b → IsWellFormed info db a
    → AreSorted (plan_width info a) (order_of info a) left → IsInOrder (left_order (plan_width info a) on) (node_bag info db (MergeJoin on) (plan_width info b) left right)
merge-order info db on part a b left right formed first h =
    let keys : List KeyOrder = left_order (plan_width info a) on in
    join-order Inner on (plan_width info b) (plan_width info a) keys left right
    (prefix-within (plan_width info a) keys (order_of info a) formed.inputs.first.sorted (order-within info db a first))
    (recursion_from_All (λ row. length row ≡ plan_width info a) left h.wide)
    (prefix-order (order_of info a) keys left formed.inputs.first.sorted h.sorted)

node-order : (info : Info) (db : Db) (node : PlanNode) (part : ℕ) (a b : PlanTree) (left right : List Row) → IsWellFormedNode info db node part a b → IsWellFormed info db a → IsNoSort node
    → AreSorted (plan_width info a) (order_of info a) left → IsInOrder (gives info (plan_width info a) node (order_of info a)) (node_bag info db node (plan_width info b) left right)
node-order info db (MemScan table) part a b left right formed first other h = in-none (table_rows db table)
node-order info db (CsvScan table) part a b left right formed first other h = in-none (table_rows db table)
node-order info db (TileRead tile) part a b left right formed first other h = tile-order info db tile
node-order info db (MemFilter predicate) part a b left right formed first other h = in-none (node_bag info db (MemFilter predicate) (plan_width info b) left right)
node-order info db (MemProject items) part a b left right formed first other h = in-none (node_bag info db (MemProject items) (plan_width info b) left right)
node-order info db (CsvProject items) part a b left right formed first other h = in-none (node_bag info db (CsvProject items) (plan_width info b) left right)
node-order info db ToEnumerable part a b left right formed first other h = h.sorted
node-order info db (Filter predicate) part a b left right formed first other h = filter-order predicate (order_of info a) left h.sorted
node-order info db (Project items) part a b left right formed first other h = project-order items (order_of info a) left h.sorted
node-order info db (NestedLoopJoin kind on) part a b left right formed first other h = loop-order info db kind on (plan_width info b) a left right first h
node-order info db (HashJoin kind on) part a b left right formed first other h = in-none (node_bag info db (HashJoin kind on) (plan_width info b) left right)
node-order info db (MergeJoin on) part a b left right formed first other h = merge-order info db on part a b left right formed first h
node-order info db (HashAggregate groups calls) part a b left right formed first other h = in-none (node_bag info db (HashAggregate groups calls) (plan_width info b) left right)
node-order info db (SortedAggregate groups calls) part a b left right formed first other h =
    group-order groups (called calls) left (prefix-order (order_of info a) (ascending_by groups) left formed.inputs.first.sorted h.sorted)
node-order info db (EmptyRows types) part a b left right formed first other h = in-none []
node-order info db (Sort keys) part a b left right formed first other h = absurd other

pub made-order : (info : Info) (db : Db) (node : PlanNode) (rows part : ℕ) (a b : PlanTree) (left right : List Row) → IsWellFormed info db (plan node rows part a b) → IsNoSort node
    → AreSorted (plan_width info a) (order_of info a) left → IsInOrder (order_of info (plan node rows part a b)) (node_bag info db node (plan_width info b) left right)
made-order info db node rows part a b left right formed other h = node-order info db node part a b left right formed.0 formed.1 other h

-- ---- rows that are handed on

kept-order : (info : Info) (db : Db) (node : PlanNode) (rows part : ℕ) (a b : PlanTree) (left right : List Row) → IsKept (plan node rows part a b)
    → IsInOrder (gives info (plan_width info a) node (order_of info a)) (node_bag info db node (plan_width info b) left right)
kept-order info db (MemScan table) rows part a b left right kept = in-none (table_rows db table)
kept-order info db (CsvScan table) rows part a b left right kept = in-none (table_rows db table)
kept-order info db (TileRead tile) rows part a b left right kept = tile-order info db tile
kept-order info db (MemFilter predicate) rows part a b left right kept = in-none (node_bag info db (MemFilter predicate) (plan_width info b) left right)
kept-order info db (MemProject items) rows part a b left right kept = in-none (node_bag info db (MemProject items) (plan_width info b) left right)
kept-order info db (CsvProject items) rows part a b left right kept = in-none (node_bag info db (CsvProject items) (plan_width info b) left right)
kept-order info db ToEnumerable rows part a b left right kept = absurd (no-true kept.kind)
kept-order info db (Filter predicate) rows part a b left right kept = absurd (no-true kept.kind)
kept-order info db (Project items) rows part a b left right kept = absurd (no-true kept.kind)
kept-order info db (NestedLoopJoin kind on) rows part a b left right kept = absurd (no-true kept.kind)
kept-order info db (HashJoin kind on) rows part a b left right kept = absurd (no-true kept.kind)
kept-order info db (MergeJoin on) rows part a b left right kept = absurd (no-true kept.kind)
kept-order info db (HashAggregate groups calls) rows part a b left right kept = absurd (no-true kept.kind)
kept-order info db (SortedAggregate groups calls) rows part a b left right kept = absurd (no-true kept.kind)
kept-order info db (EmptyRows types) rows part a b left right kept = absurd (no-true kept.kind)
kept-order info db (Sort keys) rows part a b left right kept = absurd (no-true kept.kind)

pub kept-sorted : (info : Info) (db : Db) (tree : PlanTree) → IsWellFormed info db tree → IsKept tree → AreSorted (plan_width info tree) (order_of info tree) (plan_bag info db tree)
kept-sorted info db nothing h kept = absurd (no-true kept.kind)
kept-sorted info db (plan node rows part a b) h kept = record {
  wide = plan-wide info db (plan node rows part a b) h;
  sorted = kept-order info db node rows part a b (plan_bag info db a) (plan_bag info db b) kept;
}

-- ---- inputs

pub merge-first : (info : Info) (db : Db) (on : Expr) (rows part : ℕ) (a b : PlanTree) (left : List Row) → IsWellFormed info db (plan (MergeJoin on) rows part a b) → IsInOrder (order_of info a) left
    → IsSortedOn (map (λ p. p.left) (pairs_of (plan_width info a) on)) left
merge-first info db on rows part a b left formed h =
    prefix-order (order_of info a) (left_order (plan_width info a) on) left formed.0.inputs.first.sorted h

pub merge-second : (info : Info) (db : Db) (on : Expr) (rows part : ℕ) (a b : PlanTree) (right : List Row) → IsWellFormed info db (plan (MergeJoin on) rows part a b) → IsInOrder (order_of info b) right
    → IsSortedOn (map (λ p. p.right) (pairs_of (plan_width info a) on)) right
merge-second info db on rows part a b right formed h = prefix-order (order_of info b) (right_order (plan_width info a) on) right formed.0.inputs.second.sorted h

pub group-first : (info : Info) (db : Db) (groups : List ℕ) (calls : List AggCall) (rows part : ℕ) (a b : PlanTree) (left : List Row)
    → IsWellFormed info db (plan (SortedAggregate groups calls) rows part a b) → IsInOrder (order_of info a) left → IsSortedOn groups left
group-first info db groups calls rows part a b left formed h = prefix-order (order_of info a) (ascending_by groups) left formed.0.inputs.first.sorted h
