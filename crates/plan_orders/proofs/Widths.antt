-- Rows have as many columns as the plan says.
use Rattle.std.proofs.Common.{◌≡◌, ◌+◌, ℕ, List, [], ◌∷◌, ◌++◌, length, map, filter, replicate, All, get_or, Option, Some, None, slice_get, ◌∙◌, ap, arith}
use Rattle.std.specs.Prelude.{option_map, unwrap_or}
use Rattle.std.specs.List.{flat_map}
use Rattle.std.proofs.lemmas.List.{length-append, length-map, length-replicate}
use Rattle.std.proofs.lemmas.List.Elements.{All-nil, All-cons, All-head, All-tail, All-append, All-map, All-filter, All-weaker}
use Rattle.cal_value.specs.declared.value.Value.TheVariants.{Null}
use Rattle.cal_value.specs.Order.{column_of, columns_of}
use Rattle.cal_value.specs.Types.{HasTypes}
use Rattle.cal_aggregate.specs.Parts.{Part, members, parts}
use Rattle.cal_expr.specs.declared.expr.Expr.{Expr}
use Rattle.cal_expr.specs.Meaning.{meaning_of}
use Rattle.cal_schema.specs.declared.agg_call.AggCall.{AggCall}
use Rattle.cal_schema.specs.declared.database.Db.{Db}
use Rattle.cal_schema.specs.declared.join_kind.JoinKind.{JoinKind}
use Rattle.cal_schema.specs.declared.join_kind.JoinKind.TheVariants.{Inner, Left}
use Rattle.cal_schema.specs.declared.rel_type.RelType.{RelType}
use Rattle.cal_schema.specs.declared.schema.Schema.{Schema}
use Rattle.cal_schema.specs.declared.table.TableDef.{TableDef}
use Rattle.cal_schema.specs.declared.tile.TileInfo.{TileInfo}
use Rattle.cal_schema.specs.declared.tile.TileKey.{TileKey}
use Rattle.cal_schema.specs.Fits.{types_of}
use Rattle.cal_schema.specs.RelType.{IsTrueOf}
use Rattle.cal_rel.specs.Bag.{table_width, tile_width, rows_of_tile, binary_bag}
use Rattle.cal_rel.specs.Info.{Info, Star}
use Rattle.cal_rel.specs.Operators.{Row, holds, projected, partners, or_alone, joined, aggregate_of, called, same_key, by_key, grouped}
use Rattle.cal_rel.specs.Tiles.{table_rows, ascending, dims_of, calls_of, tile_rows}
use Rattle.cal_rel.specs.Tree.{join_on}
use Rattle.cal_rel.specs.Typing.{table_type}
use Rattle.cal_rel.proofs.RowLemmas.{types-length, sorted-all}
use Rattle.plan_nodes.specs.declared.nodes.PlanNode.{PlanNode}
use Rattle.plan_nodes.specs.declared.nodes.PlanNode.TheVariants.{MemScan, CsvScan, TileRead, MemFilter, MemProject, CsvProject, ToEnumerable, Filter, Project, NestedLoopJoin, HashJoin, MergeJoin, HashAggregate, SortedAggregate, EmptyRows, Sort}
use Rattle.plan_nodes.specs.Orders.{tile_of}
use Rattle.plan_nodes.specs.PlanTrees.{PlanTree, nothing, plan, instance_width, node_width, plan_width}
use Rattle.plan_meaning.specs.Bags.{instance_rows, node_bag, plan_bag}
use Rattle.plan_meaning.specs.WellFormed.{IsWellFormed, IsWellFormedNode}
use Rattle.plan_orders.specs.Ordered.{AreWide}

-- ---- shapes

all-made : {A : Type 0} (n : ℕ) (f : A → Row) → ((x : A) → length (f x) ≡ n) → (xs : List A) → AreWide n (map f xs)
all-made n f makes xs = All-map (λ row. length row ≡ n) f xs (λ k d l. makes (get_or xs k d))

all-flat : {A : Type 0} (P : A → Type 0) (n : ℕ) (f : A → List Row) → ((x : A) → P x → AreWide n (f x)) → (xs : List A) → All P xs → AreWide n (flat_map f xs)
all-flat P n f makes [] h = All-nil (λ row. length row ≡ n)
all-flat P n f makes (x ∷ xs) h =
    All-append (λ row. length row ≡ n) (f x) (flat_map f xs) (makes x (All-head P x xs h)) (all-flat P n f makes xs (All-tail P x xs h))

-- ---- leaves

scan-wide : (schema : Schema) (table : ℕ) (own : RelType) (rows : List Row) → option_map table_type (slice_get schema.tables table) ≡ Some own → IsTrueOf own rows → AreWide (table_width schema table) rows
scan-wide schema table own rows is true_of = at_table (slice_get schema.tables table) is
  where
    at_table : (p : Option TableDef) → option_map table_type p ≡ Some own → AreWide (unwrap_or (option_map (λ (t : TableDef). length t.columns) p) 0) rows
    at_table None e = absurd (Prim.cc)
    at_table (Some t) e =
        let same : own ≡ table_type t = cc in
        let columns : own.columns ≡ types_of t = ap (λ (r : RelType). r.columns) same in
        let many : length own.columns ≡ length t.columns = ap length columns ∙ length-map t.columns (λ c. c.kind) in
        All-weaker (λ row. HasTypes row own.columns) (λ row. length row ≡ length t.columns) (λ row h. types-length row own.columns h ∙ many) rows true_of.typed

by_key-wide : (groups : List ℕ) (calls : List AggCall) (rows : List Row) → AreWide (length groups + length calls) (by_key groups (called calls) rows)
by_key-wide groups calls rows = all-made (length groups + length calls) row made (parts (same_key groups) rows)
  where
    row : Part Row → Row
    row part = columns_of part.first groups ++ called calls (members part)

    made : (part : Part Row) → length (columns_of part.first groups ++ called calls (members part)) ≡ length groups + length calls
    made part =
        let keys = length-map groups (column_of part.first) in
        let values = length-map calls (λ (call : AggCall). aggregate_of call.agg call.argument (members part)) in
        length-append (columns_of part.first groups) (called calls (members part)) ∙ ap (λ n. n + length (called calls (members part))) keys ∙ ap (λ n. length groups + n) values

key-wide : (info : Info) (db : Db) (key : TileKey) → AreWide (tile_width info key) (rows_of_tile info db key)
key-wide info db key = at_star (slice_get info.stars key.lattice)
  where
    at_star : (p : Option Star) → AreWide (unwrap_or (option_map (λ (star : Star). length (dims_of star.dims key.dims) + length (calls_of key.measures)) p) 0)
        (unwrap_or (option_map (λ (star : Star). tile_rows star key (table_rows db star.table)) p) [])
    at_star None = All-nil (λ row. length row ≡ 0)
    at_star (Some star) =
        sorted-all (λ row. length row ≡ length (dims_of star.dims key.dims) + length (calls_of key.measures)) (ascending (length (dims_of star.dims key.dims)))
        (by_key (dims_of star.dims key.dims) (called (calls_of key.measures)) (table_rows db star.table))
        (by_key-wide (dims_of star.dims key.dims) (calls_of key.measures) (table_rows db star.table))

tile-wide : (info : Info) (db : Db) (instance : ℕ) → AreWide (instance_width info instance) (instance_rows info db instance)
tile-wide info db instance = at_tile (tile_of info.tiles instance)
  where
    at_tile : (p : Option TileInfo) → AreWide (unwrap_or (option_map (λ (tile : TileInfo). tile_width info tile.key) p) 0) (unwrap_or (option_map (λ (tile : TileInfo). rows_of_tile info db tile.key) p) [])
    at_tile None = All-nil (λ row. length row ≡ 0)
    at_tile (Some tile) = key-wide info db tile.key

-- ---- nodes over inputs

filter-wide : (predicate : Expr) (n : ℕ) (rows : List Row) → AreWide n rows → AreWide n (filter (holds predicate) rows)
filter-wide predicate n rows h = All-filter (holds predicate) (λ row. length row ≡ n) rows h

project-wide : (items : List Expr) (rows : List Row) → AreWide (length items) (map (projected items) rows)
project-wide items rows = all-made (length items) (projected items) (λ row. length-map items (λ item. meaning_of item row)) rows

join-wide : (kind : JoinKind) (on : Expr) (n m : ℕ) (left right : List Row) → AreWide n left → AreWide m right → AreWide (n + m) (binary_bag (join_on kind on) m left right)
join-wide kind on n m left right h more = all-flat (λ row. length row ≡ n) (n + m) (joined kind on m right) each left h
  where
    alone : (x : Row) → length x ≡ n → (rows : List Row) → AreWide (n + m) rows → AreWide (n + m) (or_alone (x ++ replicate m Null) rows)
    alone x e [] h =
        let own : length (x ++ replicate m Null) ≡ n + m = length-append x (replicate m Null) ∙ ap (λ k. k + length (replicate m Null)) e ∙ ap (λ k. n + k) (length-replicate m Null) in
        All-cons (λ row. length row ≡ n + m) (x ++ replicate m Null) [] own (All-nil (λ row. length row ≡ n + m))
    alone x e (row ∷ rows) h = h

    paired : (x : Row) → length x ≡ n → AreWide (n + m) (partners on right x)
    paired x e =
        All-filter (holds on) (λ row. length row ≡ n + m) (map (λ y. x ++ y) right)
        (All-map (λ row. length row ≡ n + m) (λ y. x ++ y) right
        (All-weaker (λ row. length row ≡ m) (λ y. length (x ++ y) ≡ n + m) (λ y f. length-append x y ∙ ap (λ k. k + length y) e ∙ ap (λ k. n + k) f) right more))

    by : (kind : JoinKind) (x : Row) → length x ≡ n → AreWide (n + m) (joined kind on m right x)
    by Inner x e = paired x e
    by Left x e = alone x e (partners on right x) (paired x e)

    each : (x : Row) → length x ≡ n → AreWide (n + m) (joined kind on m right x)
    each x e = by kind x e

group-wide : (groups : List ℕ) (calls : List AggCall) (rows : List Row) → AreWide (length groups + length calls) (grouped groups (called calls) rows)
group-wide [] calls rows =
    let values : length (called calls rows) ≡ length calls = length-map calls (λ (call : AggCall). aggregate_of call.agg call.argument rows) in
    let own : length (called calls rows) ≡ 0 + length calls = omega arith in
    All-cons (λ row. length row ≡ 0 + length calls) (called calls rows) [] own (All-nil (λ row. length row ≡ 0 + length calls))
group-wide (g ∷ groups) calls rows = by_key-wide (g ∷ groups) calls rows

pub node-wide : (info : Info) (db : Db) (node : PlanNode) (part : ℕ) (a b : PlanTree) (left right : List Row) → IsWellFormedNode info db node part a b
    → AreWide (plan_width info a) left → AreWide (plan_width info b) right → AreWide (node_width info node (plan_width info a) (plan_width info b)) (node_bag info db node (plan_width info b) left right)
node-wide info db (MemScan table) part a b left right formed h more = scan-wide info.schema table formed.types.own (table_rows db table) formed.types.typed formed.types.own_is
node-wide info db (CsvScan table) part a b left right formed h more = scan-wide info.schema table formed.types.own (table_rows db table) formed.types.typed formed.types.own_is
node-wide info db (TileRead tile) part a b left right formed h more = tile-wide info db tile
node-wide info db (MemFilter predicate) part a b left right formed h more = filter-wide predicate (plan_width info a) left h
node-wide info db (MemProject items) part a b left right formed h more = project-wide items left
node-wide info db (CsvProject items) part a b left right formed h more = project-wide items left
node-wide info db ToEnumerable part a b left right formed h more = h
node-wide info db (Filter predicate) part a b left right formed h more = filter-wide predicate (plan_width info a) left h
node-wide info db (Project items) part a b left right formed h more = project-wide items left
node-wide info db (NestedLoopJoin kind on) part a b left right formed h more = join-wide kind on (plan_width info a) (plan_width info b) left right h more
node-wide info db (HashJoin kind on) part a b left right formed h more = join-wide kind on (plan_width info a) (plan_width info b) left right h more
node-wide info db (MergeJoin on) part a b left right formed h more = join-wide Inner on (plan_width info a) (plan_width info b) left right h more
node-wide info db (HashAggregate groups calls) part a b left right formed h more = group-wide groups calls left
node-wide info db (SortedAggregate groups calls) part a b left right formed h more = group-wide groups calls left
node-wide info db (EmptyRows types) part a b left right formed h more = All-nil (λ row. length row ≡ length types)
node-wide info db (Sort keys) part a b left right formed h more = h

-- ---- plans

pub made-wide : (info : Info) (db : Db) (node : PlanNode) (rows part : ℕ) (a b : PlanTree) (left right : List Row) → IsWellFormed info db (plan node rows part a b)
    → AreWide (plan_width info a) left → AreWide (plan_width info b) right → AreWide (plan_width info (plan node rows part a b)) (node_bag info db node (plan_width info b) left right)
made-wide info db node rows part a b left right formed h more = node-wide info db node part a b left right formed.0 h more

pub plan-wide : (info : Info) (db : Db) (tree : PlanTree) → IsWellFormed info db tree → AreWide (plan_width info tree) (plan_bag info db tree)
plan-wide info db nothing h = All-nil (λ row. length row ≡ 0)
plan-wide info db (plan node rows part a b) h =
    node-wide info db node part a b (plan_bag info db a) (plan_bag info db b) h.0 (plan-wide info db a h.1) (plan-wide info db b h.2)
