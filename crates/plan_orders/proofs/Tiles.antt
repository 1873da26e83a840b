-- The rows of a tile are sorted by its dimensions.
use Rattle.std.proofs.Common.{◌≡◌, ℕ, Bool, true, false, cond, List, [], ◌∷◌, length, Option, Some, None, slice_get, refl, sym, ◌∙◌}
use Rattle.std.specs.Prelude.{option_map, unwrap_or}
use Rattle.std.specs.List.{AllByRecursion}
use Rattle.std.specs.Ordering.{is_lt, is_gt, is_le, ordering_reverse}
use Rattle.std.specs.declared.cmp.Ordering.{Ordering}
use Rattle.std.specs.declared.cmp.Ordering.TheVariants.{Less, Equal, Greater}
use Rattle.std.proofs.lemmas.Cmp.{upto}
use Rattle.cal_value.specs.declared.order.KeyOrder.{KeyOrder}
use Rattle.cal_value.specs.Order.{row_cmp, IsInOrder}
use Rattle.cal_value.proofs.OrderLemmas.{row_cmp_total}
use Rattle.cal_schema.specs.declared.database.Db.{Db}
use Rattle.cal_schema.specs.declared.tile.TileInfo.{TileInfo}
use Rattle.cal_schema.specs.declared.tile.TileKey.{TileKey}
use Rattle.cal_rel.specs.Bag.{rows_of_tile}
use Rattle.cal_rel.specs.Info.{Info, Star}
use Rattle.cal_rel.specs.Operators.{Row, by_key, called}
use Rattle.cal_rel.specs.Tiles.{table_rows, inserted, sorted, ascending, dims_of, calls_of, tile_rows}
use Rattle.plan_nodes.specs.Orders.{tile_of, key_order, tile_order}
use Rattle.plan_meaning.specs.Bags.{instance_rows}
use Rattle.plan_orders.proofs.Rising.{Rises, each-weaker}
use Rattle.plan_orders.proofs.UpTo.{IsUpTo, order-from, in-none}

-- ---- inserted rows

le-up : (o p : Ordering) → o ≡ ordering_reverse p → is_le p ≡ true → is_lt o ≡ false
le-up Less Less e h = absurd (Prim.cc)
le-up Less Equal e h = absurd (Prim.cc)
le-up Less Greater e h = absurd (Prim.cc)
le-up Equal p e h = refl
le-up Greater p e h = refl

gt-up : (o : Ordering) → is_le o ≡ false → is_lt o ≡ false
gt-up Less h = absurd (Prim.cc)
gt-up Equal h = absurd (Prim.cc)
gt-up Greater h = refl

lt-turned : (o p : Ordering) → o ≡ ordering_reverse p → is_lt o ≡ is_gt p
lt-turned Less Less e = absurd (Prim.cc)
lt-turned Less Equal e = absurd (Prim.cc)
lt-turned Less Greater e = refl
lt-turned Equal Less e = absurd (Prim.cc)
lt-turned Equal Equal e = refl
lt-turned Equal Greater e = absurd (Prim.cc)
lt-turned Greater Less e = refl
lt-turned Greater Equal e = absurd (Prim.cc)
lt-turned Greater Greater e = absurd (Prim.cc)

further : (keys : List KeyOrder) (a b c : Row) → IsUpTo keys a b → IsUpTo keys b c → IsUpTo keys a c
further keys a b c p q =
    let turn : (x y : Row) → is_lt (row_cmp keys y x) ≡ is_gt (row_cmp keys x y) = λ x y. lt-turned (row_cmp keys y x) (row_cmp keys x y) ((row_cmp_total keys).antisymm y x) in
    turn a c ∙ upto (row_cmp_total keys) a b c (sym (turn a b) ∙ p) (sym (turn b c) ∙ q)

inserted-each : (P : Row → Type 0) (keys : List KeyOrder) (row : Row) (rows : List Row) → P row → AllByRecursion P rows → AllByRecursion P (inserted keys row rows)
inserted-each P keys row [] here h = (here, tt)
inserted-each P keys row (other ∷ rows) here h = by (is_le (row_cmp keys row other)) (inserted-each P keys row rows here h.1)
  where
    by : (b : Bool) → AllByRecursion P (inserted keys row rows) → AllByRecursion P (cond b (row ∷ (other ∷ rows)) (other ∷ inserted keys row rows))
    by true more = (here, h)
    by false more = (h.0, more)

inserted-rises : (keys : List KeyOrder) (row : Row) (rows : List Row) → Rises (IsUpTo keys) rows → Rises (IsUpTo keys) (inserted keys row rows)
inserted-rises keys row [] h = (tt, tt)
inserted-rises keys row (other ∷ rows) h = by (is_le (row_cmp keys row other)) refl (inserted-rises keys row rows h.1)
  where
    by : (b : Bool) → is_le (row_cmp keys row other) ≡ b → Rises (IsUpTo keys) (inserted keys row rows) → Rises (IsUpTo keys) (cond b (row ∷ (other ∷ rows)) (other ∷ inserted keys row rows))
    by true e more =
        let up : IsUpTo keys row other = le-up (row_cmp keys other row) (row_cmp keys row other) ((row_cmp_total keys).antisymm other row) e in
        ((up, each-weaker (IsUpTo keys other) (IsUpTo keys row) (λ r p. further keys row other r up p) rows h.0), h)
    by false e more = (inserted-each (IsUpTo keys other) keys row rows (gt-up (row_cmp keys row other) e) h.0, more)

sorted-rises : (keys : List KeyOrder) (rows : List Row) → Rises (IsUpTo keys) (sorted keys rows)
sorted-rises keys [] = tt
sorted-rises keys (row ∷ rows) = inserted-rises keys row (sorted keys rows) (sorted-rises keys rows)

pub sorted-order : (keys : List KeyOrder) (rows : List Row) → IsInOrder keys (sorted keys rows)
sorted-order keys rows = order-from keys (sorted keys rows) (sorted-rises keys rows)

-- ---- tiles

key-rows : (info : Info) (db : Db) (key : TileKey) → IsInOrder (key_order info key) (rows_of_tile info db key)
key-rows info db key = at_star (slice_get info.stars key.lattice)
  where
    at_star : (p : Option Star) → IsInOrder (unwrap_or (option_map (λ (star : Star). ascending (length (dims_of star.dims key.dims))) p) [])
        (unwrap_or (option_map (λ (star : Star). tile_rows star key (table_rows db star.table)) p) [])
    at_star None = in-none []
    at_star (Some star) =
        sorted-order (ascending (length (dims_of star.dims key.dims))) (by_key (dims_of star.dims key.dims) (called (calls_of key.measures)) (table_rows db star.table))

pub tile-order : (info : Info) (db : Db) (instance : ℕ) → IsInOrder (tile_order info instance) (instance_rows info db instance)
tile-order info db instance = at_tile (tile_of info.tiles instance)
  where
    at_tile : (p : Option TileInfo) → IsInOrder (unwrap_or (option_map (λ (tile : TileInfo). key_order info tile.key) p) []) (unwrap_or (option_map (λ (tile : TileInfo). rows_of_tile info db tile.key) p) [])
    at_tile None = in-none []
    at_tile (Some tile) = key-rows info db tile.key
