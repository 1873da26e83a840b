-- Sets that hold a tree of parts that can be read.
use Rattle.std.specs.Prelude.{ℕ, ◌<◌, length, ⊤}
use Rattle.cal_rel.specs.Info.{Info}
use Rattle.cal_rel.specs.Tree.{Leaf, scan, tile_scan, star_scan, empty_of, Tree, leaf, unary, binary, hole}
use Rattle.memo_model.specs.Sets.{Stands}
use Rattle.phys_plan.specs.Spaces.{Space}

abbrev pub IsPart : Info → Leaf → Type 0
IsPart info (scan table) = table < length info.schema.tables
IsPart info (tile_scan at) = at < length info.tiles
IsPart info (star_scan lattice) = ⊥
IsPart info (empty_of types) = ⊤

-- no holes, and each leaf is a table or a tile that is there, or has no rows
abbrev pub IsGround : Info → Tree → Type 0
IsGround info (leaf l) = IsPart info l
IsGround info (unary u t) = IsGround info t
IsGround info (binary b s t) = IsGround info s × IsGround info t
IsGround info (hole k) = ⊥

pub record HoldsTree (space : Space) (set : ℕ) : Type 0 where
  pub tree : Tree
  pub stands : Stands space.members set tree
  pub ground : IsGround space.info tree
