-- When a plan can be run over a database: each node has what is asked at its place, and its inputs' rows have types over which it is
-- well formed.
use Rattle.std.specs.Prelude.{◌≡◌, ℕ, ◌<◌, ◌||◌, IsTrue, Bool, false, List, [], length, All, Option, Some, slice_get, ⊤}
use Rattle.std.specs.Option.{option_and_then}
use Rattle.cal_value.specs.declared.order.KeyOrder.{KeyOrder}
use Rattle.cal_expr.specs.declared.expr.Expr.{Expr}
use Rattle.cal_schema.specs.declared.database.Db.{Db}
use Rattle.cal_schema.specs.declared.join_kind.JoinKind.TheVariants.{Inner}
use Rattle.cal_schema.specs.declared.rel_type.RelType.{RelType}
use Rattle.cal_schema.specs.declared.table.AdapterKind.{AdapterKind}
use Rattle.cal_schema.specs.declared.table.AdapterKind.TheVariants.{Csv, Mem}
use Rattle.cal_schema.specs.declared.table.TableDef.{TableDef}
use Rattle.cal_schema.specs.declared.tile.TileInfo.{TileInfo}
use Rattle.cal_schema.specs.RelType.{IsTrueOf}
use Rattle.cal_rel.specs.Bag.{rows_of_tile}
use Rattle.cal_rel.specs.Info.{Info}
use Rattle.cal_rel.specs.Operators.{Row}
use Rattle.cal_rel.specs.Tiles.{table_rows}
use Rattle.cal_rel.specs.Tree.{scan, empty_of}
use Rattle.cal_rel.specs.Typing.{Keyed, pairs_of, filter_type, project_type, aggregate_type, join_type, tile_type, leaf_type}
use Rattle.plan_nodes.specs.declared.nodes.PlanNode.{PlanNode}
use Rattle.plan_nodes.specs.declared.nodes.PlanNode.TheVariants.{MemScan, CsvScan, TileRead, MemFilter, MemProject, CsvProject, ToEnumerable, Filter, Project, NestedLoopJoin, HashJoin, MergeJoin, HashAggregate, SortedAggregate, EmptyRows, Sort}
use Rattle.plan_nodes.specs.Orders.{is_prefix, tile_of, ascending_by, left_order, right_order}
use Rattle.plan_nodes.specs.PlanTrees.{PlanTree, nothing, plan, plan_width, order_of}
use Rattle.phys_plan.specs.declared.ways.Want.{Want}
use Rattle.phys_plan.specs.declared.ways.Want.TheVariants.{Rows, MemScanned, MemFiltered, MemKept, CsvScanned, CsvKept, Tiled}
use Rattle.phys_plan.specs.Spaces.{Space, table_len}
use Rattle.phys_plan.specs.Ways.{fits, is_tests, are_different}
use Rattle.plan_meaning.specs.Bags.{node_bag, plan_bag}

-- ---- inputs

abbrev pub root_fits : Want → PlanTree → Bool
root_fits want nothing = false
root_fits want (plan node rows part a b) = fits want node

-- a plan whose root is of the kind that is asked, of rows that are sorted as asked, or further
pub record Gives (info : Info) (want : Want) (order : List KeyOrder) (tree : PlanTree) : Type 0 where
  pub kind : IsTrue (root_fits want tree)
  pub sorted : IsTrue (is_prefix order (order_of info tree))

-- rows that a table's adapter or a tile hands on
pub record IsKept (tree : PlanTree) : Type 0 where
  pub kind : IsTrue (root_fits MemKept tree || (root_fits CsvKept tree || root_fits Tiled tree))

pub record HasNone (a b : PlanTree) : Type 0 where
  pub first : a ≡ nothing
  pub second : b ≡ nothing

pub record HasOne (info : Info) (want : Want) (order : List KeyOrder) (a b : PlanTree) : Type 0 where
  pub first : Gives info want order a
  pub second : b ≡ nothing

pub record HasKept (a b : PlanTree) : Type 0 where
  pub first : IsKept a
  pub second : b ≡ nothing

pub record HasTwo (info : Info) (left right : List KeyOrder) (a b : PlanTree) : Type 0 where
  pub first : Gives info Rows left a
  pub second : Gives info Rows right b

-- the inputs that the node asks
abbrev pub HasInputs : Info → PlanNode → PlanTree → PlanTree → Type 0
HasInputs info (MemScan table) a b = HasNone a b
HasInputs info (CsvScan table) a b = HasNone a b
HasInputs info (TileRead tile) a b = HasNone a b
HasInputs info (MemFilter predicate) a b = HasOne info MemScanned [] a b
HasInputs info (MemProject items) a b = HasOne info MemFiltered [] a b
HasInputs info (CsvProject items) a b = HasOne info CsvScanned [] a b
HasInputs info ToEnumerable a b = HasKept a b
HasInputs info (Filter predicate) a b = HasOne info Rows [] a b
HasInputs info (Project items) a b = HasOne info Rows [] a b
HasInputs info (NestedLoopJoin kind on) a b = HasTwo info [] [] a b
HasInputs info (HashJoin kind on) a b = HasTwo info [] [] a b
HasInputs info (MergeJoin on) a b = HasTwo info (left_order (plan_width info a) on) (right_order (plan_width info a) on) a b
HasInputs info (HashAggregate groups calls) a b = HasOne info Rows [] a b
HasInputs info (SortedAggregate groups calls) a b = HasOne info Rows (ascending_by groups) a b
HasInputs info (EmptyRows types) a b = HasNone a b
HasInputs info (Sort keys) a b = HasOne info Rows [] a b

-- ---- parts

-- a table of this adapter that is there, and has so many rows
pub record ReadsTable (info : Info) (db : Db) (adapter : AdapterKind) (table part : ℕ) : Type 0 where
  pub def : TableDef
  pub there : slice_get info.schema.tables table ≡ Some def
  pub kept : def.adapter ≡ adapter
  pub held : table < length db.tables
  pub rows : part ≡ length (table_rows db table)

-- the tile of this instance is there, and so many rows are those of its key
pub record ReadsTile (info : Info) (db : Db) (instance part : ℕ) : Type 0 where
  pub tile : TileInfo
  pub there : tile_of info.tiles instance ≡ Some tile
  pub rows : part ≡ length (rows_of_tile info db tile.key)

-- the part that the node reads is there, and has so many rows; 0 of a node that reads none
abbrev pub Reads : Info → Db → PlanNode → ℕ → Type 0
Reads info db (MemScan table) part = ReadsTable info db Mem table part
Reads info db (CsvScan table) part = ReadsTable info db Csv table part
Reads info db (TileRead tile) part = ReadsTile info db tile part
Reads info db (MemFilter predicate) part = part ≡ 0
Reads info db (MemProject items) part = part ≡ 0
Reads info db (CsvProject items) part = part ≡ 0
Reads info db ToEnumerable part = part ≡ 0
Reads info db (Filter predicate) part = part ≡ 0
Reads info db (Project items) part = part ≡ 0
Reads info db (NestedLoopJoin kind on) part = part ≡ 0
Reads info db (HashJoin kind on) part = part ≡ 0
Reads info db (MergeJoin on) part = part ≡ 0
Reads info db (HashAggregate groups calls) part = part ≡ 0
Reads info db (SortedAggregate groups calls) part = part ≡ 0
Reads info db (EmptyRows types) part = part ≡ 0
Reads info db (Sort keys) part = part ≡ 0

-- ---- forms

-- some conjunct equates a column of each side
pub record HasPair (width : ℕ) (on : Expr) : Type 0 where
  pub some : 0 < length (pairs_of width on)

-- each key is a column of rows that have so many
pub record HasKeysWithin (width : ℕ) (keys : List KeyOrder) : Type 0 where
  pub within : All (λ key. key.column < width) keys

-- of a node whose first input has so many columns
abbrev pub HasForm : ℕ → PlanNode → Type 0
HasForm width (MemScan table) = ⊤
HasForm width (CsvScan table) = ⊤
HasForm width (TileRead tile) = ⊤
HasForm width (MemFilter predicate) = IsTrue (is_tests predicate)
HasForm width (MemProject items) = IsTrue (are_different items)
HasForm width (CsvProject items) = IsTrue (are_different items)
HasForm width ToEnumerable = ⊤
HasForm width (Filter predicate) = ⊤
HasForm width (Project items) = ⊤
HasForm width (NestedLoopJoin kind on) = ⊤
HasForm width (HashJoin kind on) = HasPair width on
HasForm width (MergeJoin on) = HasPair width on
HasForm width (HashAggregate groups calls) = ⊤
HasForm width (SortedAggregate groups calls) = ⊤
HasForm width (EmptyRows types) = ⊤
HasForm width (Sort keys) = HasKeysWithin width keys

-- ---- types

-- no side has a key that is known
abbrev pub unkeyed : Keyed
unkeyed = record { left = false; right = false }

-- the type of a node's rows over those of its inputs; none where it isn't well formed over them
abbrev pub node_type : Info → PlanNode → RelType → RelType → Option RelType
node_type info (MemScan table) left right = leaf_type info (scan table)
node_type info (CsvScan table) left right = leaf_type info (scan table)
node_type info (TileRead tile) left right = option_and_then (λ found. tile_type info found.key) (tile_of info.tiles tile)
node_type info (MemFilter predicate) left right = filter_type predicate left
node_type info (MemProject items) left right = project_type items left
node_type info (CsvProject items) left right = project_type items left
node_type info ToEnumerable left right = Some left
node_type info (Filter predicate) left right = filter_type predicate left
node_type info (Project items) left right = project_type items left
node_type info (NestedLoopJoin kind on) left right = join_type kind on unkeyed left right
node_type info (HashJoin kind on) left right = join_type kind on unkeyed left right
node_type info (MergeJoin on) left right = join_type Inner on unkeyed left right
node_type info (HashAggregate groups calls) left right = aggregate_type groups calls left
node_type info (SortedAggregate groups calls) left right = aggregate_type groups calls left
node_type info (EmptyRows types) left right = leaf_type info (empty_of types)
node_type info (Sort keys) left right = Some left

-- a type of so many columns that is true of the rows
pub record IsTypeOfRows (t : RelType) (width : ℕ) (rows : List Row) : Type 0 where
  pub true : IsTrueOf t rows
  pub columns : length t.columns ≡ width

-- types of the inputs' rows over which the node is well formed, and of its own rows
pub record IsTyped (info : Info) (db : Db) (node : PlanNode) (a b : PlanTree) : Type 0 where
  pub left : RelType
  pub right : RelType
  pub own : RelType
  pub left_is : IsTypeOfRows left (plan_width info a) (plan_bag info db a)
  pub right_is : IsTypeOfRows right (plan_width info b) (plan_bag info db b)
  pub own_is : IsTrueOf own (node_bag info db node (plan_width info b) (plan_bag info db a) (plan_bag info db b))
  pub typed : node_type info node left right ≡ Some own

-- ---- plans

pub record IsWellFormedNode (info : Info) (db : Db) (node : PlanNode) (part : ℕ) (a b : PlanTree) : Type 0 where
  pub inputs : HasInputs info node a b
  pub reads : Reads info db node part
  pub form : HasForm (plan_width info a) node
  pub types : IsTyped info db node a b

-- each node is
abbrev pub IsWellFormed : Info → Db → PlanTree → Type 0
IsWellFormed info db nothing = ⊤
IsWellFormed info db (plan node rows part a b) = IsWellFormedNode info db node part a b × IsWellFormed info db a × IsWellFormed info db b

-- ---- what a plan of a memo needs besides

-- the space has the lengths of the parts: of each table, and of each tile the rows of its key
pub record ArePartsOf (space : Space) (db : Db) : Type 0 where
  pub tables : (table : ℕ) → table_len space table ≡ length (table_rows db table)
  pub tiles : (at : ℕ) (tile : TileInfo) → slice_get space.info.tiles at ≡ Some tile → tile.rows ≡ length (rows_of_tile space.info db tile.key)
