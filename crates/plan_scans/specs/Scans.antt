-- What the rows of a plan's scans are.
use Rattle.std.specs.Prelude.{◌≡◌, ℕ, List, [], Some}
use Rattle.cal_schema.specs.declared.database.Db.{Db}
use Rattle.cal_schema.specs.declared.schema.Schema.{Schema}
use Rattle.cal_schema.specs.declared.tile.TileInfo.{TileInfo}
use Rattle.cal_snapshot.specs.declared.part.Part.TheVariants.{Tile}
use Rattle.cal_snapshot.specs.Parts.{Parts, rows_of}
use Rattle.cal_rel.specs.Bag.{rows_of_tile}
use Rattle.cal_rel.specs.Info.{Info, info_of}
use Rattle.cal_rel.specs.Operators.{Row}
use Rattle.plan_nodes.specs.declared.plan.Plan.{Plan}
use Rattle.plan_nodes.specs.Orders.{tile_of}
use Rattle.plan_nodes.specs.PlanTrees.{PlanTree}
use Rattle.plan_nodes.specs.Seen.{plan_tree}
use Rattle.plan_meaning.specs.Bags.{plan_bag}
use Rattle.plan_meaning.specs.WellFormed.{IsKept, IsWellFormed}

-- the schema with the tiles of a snapshot
abbrev pub info_over : Schema → Parts → Info
info_over schema parts = info_of schema parts.tiles []

-- the tables of a snapshot
abbrev pub tables_of : Parts → Db
tables_of parts = record { tables = parts.tables }

-- each tile of a snapshot holds the rows of its key
pub record HoldsTiles (schema : Schema) (parts : Parts) : Type 0 where
  pub rows : (instance : ℕ) (tile : TileInfo) → tile_of parts.tiles instance ≡ Some tile
      → rows_of parts (Tile instance) ≡ Some (rows_of_tile (info_over schema parts) (tables_of parts) tile.key)

-- a well-formed plan whose root hands on rows of a table or of a tile
pub record CanScan (schema : Schema) (parts : Parts) (p : Plan) : Type 0 where
  pub tree : PlanTree
  pub is : plan_tree p ≡ Some tree
  pub kept : IsKept tree
  pub formed : IsWellFormed (info_over schema parts) (tables_of parts) tree

-- the rows are those that the plan means, in their order
pub record AreScanned (schema : Schema) (parts : Parts) (p : Plan) (rows : List Row) : Type 0 where
  pub of : (tree : PlanTree) → plan_tree p ≡ Some tree → rows ≡ plan_bag (info_over schema parts) (tables_of parts) tree
