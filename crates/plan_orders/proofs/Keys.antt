-- The keys of the order that a plan gives are columns of its rows.
use Rattle.std.proofs.Common.{◌≡◌, ◌<◌, ◌≤◌, ◌+◌, ℕ, zero, suc, true, List, [], ◌∷◌, length, map, Option, Some, None, slice_get, refl, sym, subst, arith}
use Rattle.std.specs.Prelude.{option_map, unwrap_or}
use Rattle.std.specs.List.{AllByRecursion, range_with_len}
use Rattle.std.proofs.lemmas.List.Elements.{All-from_recursion, recursion_from_All}
use Rattle.cal_value.specs.declared.order.KeyOrder.{KeyOrder}
use Rattle.cal_value.proofs.TypeLemmas.{and-both}
use Rattle.cal_expr.specs.declared.expr.Expr.{Expr}
use Rattle.cal_schema.specs.declared.database.Db.{Db}
use Rattle.cal_schema.specs.declared.tile.TileInfo.{TileInfo}
use Rattle.cal_schema.specs.declared.tile.TileKey.{TileKey}
use Rattle.cal_rel.specs.Bag.{tile_width}
use Rattle.cal_rel.specs.Info.{Info, Star}
use Rattle.cal_rel.specs.Tiles.{ascending, dims_of, calls_of}
use Rattle.plan_nodes.specs.declared.nodes.PlanNode.{PlanNode}
use Rattle.plan_nodes.specs.declared.nodes.PlanNode.TheVariants.{MemScan, CsvScan, TileRead, MemFilter, MemProject, CsvProject, ToEnumerable, Filter, Project, NestedLoopJoin, HashJoin, MergeJoin, HashAggregate, SortedAggregate, EmptyRows, Sort}
use Rattle.plan_nodes.specs.Orders.{key_eq, is_prefix, ascending_key, left_order, tile_of, key_order, tile_order, first_place, and_then, through, gives}
use Rattle.plan_nodes.specs.PlanTrees.{PlanTree, nothing, plan, instance_width, node_width, plan_width, order_of}
use Rattle.plan_nodes.proofs.OrderLemmas.{key-from}
use Rattle.plan_meaning.specs.WellFormed.{IsWellFormed, IsWellFormedNode, HasKeysWithin}
use Rattle.plan_orders.proofs.Rising.{each-weaker}
use Rattle.plan_orders.proofs.Projects.{place-within}

abbrev pub AreWithin : ℕ → List KeyOrder → Type 0
AreWithin width keys = AllByRecursion (λ key. key.column < width) keys

wider-within : (n m : ℕ) (keys : List KeyOrder) → n ≤ m → AreWithin n keys → AreWithin m keys
wider-within n m keys l h = each-weaker (λ (key : KeyOrder). key.column < n) (λ (key : KeyOrder). key.column < m) (λ key p. omega arith) keys h

ascending-within : (i n m : ℕ) → i + n ≤ m → AreWithin m (map ascending_key (range_with_len i n))
ascending-within i zero m l = tt
ascending-within i (suc n) m l = (omega arith, ascending-within (i + 1) n m (omega arith))

through-within : (items : List Expr) (order : List KeyOrder) → AreWithin (length items) (through items order)
through-within items [] = tt
through-within items (key ∷ order) = at_place (first_place key.column items) refl (through-within items order)
  where
    at_place : (p : Option ℕ) → first_place key.column items ≡ p → AreWithin (length items) (through items order) → AreWithin (length items) (and_then key p (through items order))
    at_place None is h = tt
    at_place (Some k) is h = (place-within key.column items k is, h)

pub prefix-within : (width : ℕ) (need order : List KeyOrder) → is_prefix need order ≡ true → AreWithin width order → AreWithin width need
prefix-within width [] order p h = tt
prefix-within width (k ∷ need) [] p h = absurd (Prim.cc)
prefix-within width (k ∷ need) (c ∷ order) p h =
    let parts = and-both (key_eq k c) (is_prefix need order) p in
    (subst (λ (x : KeyOrder). x.column < width) (sym (key-from k c parts.0)) h.0, prefix-within width need order parts.1 h.1)

tile-key-within : (info : Info) (key : TileKey) → AreWithin (tile_width info key) (key_order info key)
tile-key-within info key = at_star (slice_get info.stars key.lattice)
  where
    at_star : (p : Option Star) → AreWithin (unwrap_or (option_map (λ (star : Star). length (dims_of star.dims key.dims) + length (calls_of key.measures)) p) 0)
        (unwrap_or (option_map (λ (star : Star). ascending (length (dims_of star.dims key.dims))) p) [])
    at_star None = tt
    at_star (Some star) = ascending-within 0 (length (dims_of star.dims key.dims)) (length (dims_of star.dims key.dims) + length (calls_of key.measures)) (omega arith)

tile-within : (info : Info) (instance : ℕ) → AreWithin (instance_width info instance) (tile_order info instance)
tile-within info instance = at_tile (tile_of info.tiles instance)
  where
    at_tile : (p : Option TileInfo) → AreWithin (unwrap_or (option_map (λ (tile : TileInfo). tile_width info tile.key) p) 0) (unwrap_or (option_map (λ (tile : TileInfo). key_order info tile.key) p) [])
    at_tile None = tt
    at_tile (Some tile) = tile-key-within info tile.key

-- ---- nodes

pub gives-within : (info : Info) (db : Db) (node : PlanNode) (part : ℕ) (a b : PlanTree) → IsWellFormedNode info db node part a b → AreWithin (plan_width info a) (order_of info a)
    → AreWithin (node_width info node (plan_width info a) (plan_width info b)) (gives info (plan_width info a) node (order_of info a))
gives-within info db (MemScan table) part a b formed h = tt
gives-within info db (CsvScan table) part a b formed h = tt
gives-within info db (TileRead tile) part a b formed h = tile-within info tile
gives-within info db (MemFilter predicate) part a b formed h = tt
gives-within info db (MemProject items) part a b formed h = tt
gives-within info db (CsvProject items) part a b formed h = tt
gives-within info db ToEnumerable part a b formed h = h
gives-within info db (Filter predicate) part a b formed h = h
gives-within info db (Project items) part a b formed h = through-within items (order_of info a)
gives-within info db (NestedLoopJoin kind on) part a b formed h = wider-within (plan_width info a) (plan_width info a + plan_width info b) (order_of info a) (omega arith) h
gives-within info db (HashJoin kind on) part a b formed h = tt
gives-within info db (MergeJoin on) part a b formed h =
    wider-within (plan_width info a) (plan_width info a + plan_width info b) (left_order (plan_width info a) on) (omega arith)
    (prefix-within (plan_width info a) (left_order (plan_width info a) on) (order_of info a) formed.inputs.first.sorted h)
gives-within info db (HashAggregate groups calls) part a b formed h = tt
gives-within info db (SortedAggregate groups calls) part a b formed h = ascending-within 0 (length groups) (length groups + length calls) (omega arith)
gives-within info db (EmptyRows types) part a b formed h = tt
gives-within info db (Sort keys) part a b formed h = recursion_from_All (λ (key : KeyOrder). key.column < plan_width info a) keys formed.form.within

pub order-within : (info : Info) (db : Db) (tree : PlanTree) → IsWellFormed info db tree → AreWithin (plan_width info tree) (order_of info tree)
order-within info db nothing h = tt
order-within info db (plan node rows part a b) h = gives-within info db node part a b h.0 (order-within info db a h.1)

pub keys-within : (info : Info) (db : Db) (tree : PlanTree) → IsWellFormed info db tree → HasKeysWithin (plan_width info tree) (order_of info tree)
keys-within info db tree h = record { within = All-from_recursion (λ (key : KeyOrder). key.column < plan_width info tree) (order_of info tree) (order-within info db tree h) }
