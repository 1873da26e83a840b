-- Orders of rows: which one a node gives, and which one of its input it takes to give one.
use Rattle.std.specs.Prelude.{◌≡◌, IsTrue, ℕ, ◌==◌, ◌&&◌, Bool, true, false, if◌then◌else◌, List, [], ◌∷◌, length, map, Option, Some, None, option_map, unwrap_or, position, slice_get}
use Rattle.std.specs.Option.{option_and_then}
use Rattle.cal_value.specs.declared.order.KeyOrder.{KeyOrder}
use Rattle.cal_value.specs.Equal.{bool_eq}
use Rattle.cal_expr.specs.declared.expr.Expr.{Expr}
use Rattle.cal_expr.specs.declared.expr.Expr.TheOpen.{Expr-F}
use Rattle.cal_expr.specs.declared.expr.Expr.TheFolds.{fold-Expr}
use Rattle.cal_schema.specs.declared.tile.TileInfo.{TileInfo}
use Rattle.cal_schema.specs.declared.tile.TileKey.{TileKey}
use Rattle.cal_rel.specs.Info.{Info}
use Rattle.cal_rel.specs.Tiles.{ascending, dims_of}
use Rattle.cal_rel.specs.Typing.{pairs_of}
use Rattle.plan_nodes.specs.declared.nodes.PlanNode.{PlanNode}
use Rattle.plan_nodes.specs.declared.nodes.PlanNode.TheVariants.{MemScan, CsvScan, TileRead, MemFilter, MemProject, CsvProject, ToEnumerable, Filter, Project, NestedLoopJoin, HashJoin, MergeJoin, HashAggregate, SortedAggregate, EmptyRows, Sort}

-- ---- prefixes

abbrev pub key_eq : KeyOrder → KeyOrder → Bool
key_eq k c = k.column == c.column && (bool_eq k.descending c.descending && bool_eq k.nulls_first c.nulls_first)

-- the second order begins with the first one
abbrev pub is_prefix : List KeyOrder → List KeyOrder → Bool
is_prefix [] order = true
is_prefix (k ∷ need) [] = false
is_prefix (k ∷ need) (c ∷ order) = key_eq k c && is_prefix need order

-- ---- orders of joins, groups and tiles

-- ascending by these columns, NULL last
abbrev pub ascending_key : ℕ → KeyOrder
ascending_key column = record { column = column; descending = false; nulls_first = false }

abbrev pub ascending_by : List ℕ → List KeyOrder
ascending_by columns = map ascending_key columns

-- by the left columns of a join's pairs, where left rows have so many columns, and by the right ones
abbrev pub left_order : ℕ → Expr → List KeyOrder
left_order width on = ascending_by (map (λ p. p.left) (pairs_of width on))

abbrev pub right_order : ℕ → Expr → List KeyOrder
right_order width on = ascending_by (map (λ p. p.right) (pairs_of width on))

-- the tile of this instance
abbrev pub tile_place : List TileInfo → ℕ → Option ℕ
tile_place tiles instance = position (λ t. t.instance == instance) tiles

abbrev pub tile_of : List TileInfo → ℕ → Option TileInfo
tile_of tiles instance = option_and_then (slice_get tiles) (tile_place tiles instance)

-- by the dimensions of a key, which are the first columns of the tile
abbrev pub key_order : Info → TileKey → List KeyOrder
key_order info key = unwrap_or (option_map (λ star. ascending (length (dims_of star.dims key.dims))) (slice_get info.stars key.lattice)) []

abbrev pub tile_order : Info → ℕ → List KeyOrder
tile_order info instance = unwrap_or (option_map (λ tile. key_order info tile.key) (tile_of info.tiles instance)) []

-- ---- orders through items

abbrev pub column_step : Expr-F (Option ℕ) → Option ℕ
column_step (Expr-F.Column at) = Some at
column_step (Expr-F.Literal v) = None
column_step (Expr-F.Negate a) = None
column_step (Expr-F.Binary op a b) = None
column_step (Expr-F.Not a) = None
column_step (Expr-F.IsNull a) = None

-- the column that an item is, where it is one
abbrev pub item_column : Expr → Option ℕ
item_column item = fold-Expr (Option ℕ) column_step item

abbrev pub is_at : ℕ → Option ℕ → Bool
is_at k None = false
is_at k (Some j) = k == j

-- the first place of a column among the items
abbrev pub first_place : ℕ → List Expr → Option ℕ
first_place column items = position (λ item. is_at column (item_column item)) items

-- the same key on another column
abbrev pub moved : KeyOrder → ℕ → KeyOrder
moved key column = record { column = column; descending = key.descending; nulls_first = key.nulls_first }

abbrev pub and_then : KeyOrder → Option ℕ → List KeyOrder → List KeyOrder
and_then key None rest = []
and_then key (Some place) rest = moved key place ∷ rest

-- the longest front of an order whose columns are items, at their first places
abbrev pub through : List Expr → List KeyOrder → List KeyOrder
through items [] = []
through items (key ∷ order) = and_then key (first_place key.column items) (through items order)

-- ---- what a node gives

-- the order that a node gives over that of its first input, which has so many columns
abbrev pub gives : Info → ℕ → PlanNode → List KeyOrder → List KeyOrder
gives info width (MemScan table) order = []
gives info width (CsvScan table) order = []
gives info width (TileRead tile) order = tile_order info tile
gives info width (MemFilter predicate) order = []
gives info width (MemProject items) order = []
gives info width (CsvProject items) order = []
gives info width ToEnumerable order = order
gives info width (Filter predicate) order = order
gives info width (Project items) order = through items order
gives info width (NestedLoopJoin kind on) order = order
gives info width (HashJoin kind on) order = []
gives info width (MergeJoin on) order = left_order width on
gives info width (HashAggregate groups calls) order = []
gives info width (SortedAggregate groups calls) order = ascending (length groups)
gives info width (EmptyRows types) order = []
gives info width (Sort keys) order = keys

-- the order that a node's row asks of its first input
abbrev pub asked_order : ℕ → PlanNode → List KeyOrder
asked_order width (MemScan table) = []
asked_order width (CsvScan table) = []
asked_order width (TileRead tile) = []
asked_order width (MemFilter predicate) = []
asked_order width (MemProject items) = []
asked_order width (CsvProject items) = []
asked_order width ToEnumerable = []
asked_order width (Filter predicate) = []
asked_order width (Project items) = []
asked_order width (NestedLoopJoin kind on) = []
asked_order width (HashJoin kind on) = []
asked_order width (MergeJoin on) = left_order width on
asked_order width (HashAggregate groups calls) = []
asked_order width (SortedAggregate groups calls) = ascending_by groups
asked_order width (EmptyRows types) = []
asked_order width (Sort keys) = []

-- ---- what a node needs

-- the column that the item at a place is, where it is one
abbrev pub column_at : List Expr → ℕ → Option ℕ
column_at items at = option_and_then item_column (slice_get items at)

-- the key of the input on an item's column, where the key's place is the first one of that column
abbrev pub source : List Expr → KeyOrder → Option ℕ → Option KeyOrder
source items key None = None
source items key (Some column) = if is_at key.column (first_place column items) then Some (moved key column) else None

abbrev pub joined : Option KeyOrder → Option (List KeyOrder) → Option (List KeyOrder)
joined None rest = None
joined (Some key) None = None
joined (Some key) (Some rest) = Some (key ∷ rest)

-- the order of the input that gives this one through the items
abbrev pub back : List Expr → List KeyOrder → Option (List KeyOrder)
back items [] = Some []
back items (key ∷ need) = joined (source items key (column_at items key.column)) (back items need)

abbrev pub where_given : Bool → List KeyOrder → Option (List KeyOrder)
where_given true order = Some order
where_given false order = None

-- The least order of its first input, which has so many columns, with which a node delivers the needed one and has what its row asks;
-- None where there is no such order.
abbrev pub below : Info → ℕ → PlanNode → List KeyOrder → Option (List KeyOrder)
below info width (MemScan table) need = where_given (is_prefix need []) []
below info width (CsvScan table) need = where_given (is_prefix need []) []
below info width (TileRead tile) need = where_given (is_prefix need (tile_order info tile)) []
below info width (MemFilter predicate) need = where_given (is_prefix need []) []
below info width (MemProject items) need = where_given (is_prefix need []) []
below info width (CsvProject items) need = where_given (is_prefix need []) []
below info width ToEnumerable need = Some need
below info width (Filter predicate) need = Some need
below info width (Project items) need = back items need
below info width (NestedLoopJoin kind on) need = Some need
below info width (HashJoin kind on) need = where_given (is_prefix need []) []
below info width (MergeJoin on) need = where_given (is_prefix need (left_order width on)) (left_order width on)
below info width (HashAggregate groups calls) need = where_given (is_prefix need []) []
below info width (SortedAggregate groups calls) need = where_given (is_prefix need (ascending (length groups))) (ascending_by groups)
below info width (EmptyRows types) need = where_given (is_prefix need []) []
below info width (Sort keys) need = where_given (is_prefix need keys) []

-- an order that is answered, with which this one begins
pub record Found (answer : Option (List KeyOrder)) (order : List KeyOrder) : Type 0 where
  pub need : List KeyOrder
  pub is : answer ≡ Some need
  pub ordered : IsTrue (is_prefix need order)
