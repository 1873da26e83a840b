-- What plans are made of: a memo's members, with how many rows sets are thought to have and parts have.
use Rattle.std.specs.Prelude.{◌≡◌, ℕ, List, Option, Some, None, option_map, unwrap_or, slice_get, slice_index_or}
use Rattle.cal_schema.specs.declared.tile.TileInfo.{TileInfo}
use Rattle.cal_rel.specs.Bag.{set_width, width}
use Rattle.cal_rel.specs.Info.{Info}
use Rattle.cal_rel.specs.Tree.{Tree}
use Rattle.memo_model.specs.Sets.{Member, Has}
use Rattle.plan_nodes.specs.declared.nodes.PlanNode.{PlanNode}
use Rattle.plan_nodes.specs.declared.nodes.PlanNode.TheVariants.{MemScan, CsvScan, TileRead, MemFilter, MemProject, CsvProject, ToEnumerable, Filter, Project, NestedLoopJoin, HashJoin, MergeJoin, HashAggregate, SortedAggregate, EmptyRows, Sort}
use Rattle.plan_nodes.specs.Orders.{tile_of}

-- the members of sets, the schema with its tiles and the types of sets, by the number of a set its estimate, by the number of a table
-- how many rows it has
pub record Space : Type 0 where
  pub members : List Member
  pub info : Info
  pub estimates : List ℕ
  pub tables : List ℕ

-- how many rows the set is thought to have
abbrev pub estimate : Space → ℕ → ℕ
estimate space set = slice_index_or space.estimates set 0

abbrev pub table_len : Space → ℕ → ℕ
table_len space table = slice_index_or space.tables table 0

abbrev pub tile_len : Space → ℕ → ℕ
tile_len space instance = unwrap_or (option_map (λ tile. tile.rows) (tile_of space.info.tiles instance)) 0

-- how many rows the part has that a node reads
abbrev pub part_len : Space → PlanNode → ℕ
part_len space (MemScan table) = table_len space table
part_len space (CsvScan table) = table_len space table
part_len space (TileRead tile) = tile_len space tile
part_len space (MemFilter predicate) = 0
part_len space (MemProject items) = 0
part_len space (CsvProject items) = 0
part_len space ToEnumerable = 0
part_len space (Filter predicate) = 0
part_len space (Project items) = 0
part_len space (NestedLoopJoin kind on) = 0
part_len space (HashJoin kind on) = 0
part_len space (MergeJoin on) = 0
part_len space (HashAggregate groups calls) = 0
part_len space (SortedAggregate groups calls) = 0
part_len space (EmptyRows types) = 0
part_len space (Sort keys) = 0

-- each member has as many columns as its set, and each instance stands once among the tiles
pub record HasWidths (space : Space) : Type 0 where
  pub instances : (at : ℕ) (tile : TileInfo) → slice_get space.info.tiles at ≡ Some tile → tile_of space.info.tiles tile.instance ≡ Some tile
  pub columns : (s : ℕ) (node : Tree) → Has space.members s node → width space.info node ≡ set_width space.info s
