-- What a tree is read over.
use Rattle.std.specs.Prelude.{ℕ, List, [], Option, None, slice_get, unwrap_or}
use Rattle.cal_schema.specs.declared.rel_type.RelType.{RelType}
use Rattle.cal_schema.specs.declared.schema.Schema.{Schema}
use Rattle.cal_schema.specs.declared.tile.TileInfo.{TileInfo}

-- the table of a lattice, and which of its columns are the dimensions
pub record Star : Type 0 where
  pub table : ℕ
  pub dims : List ℕ

-- a schema, the star of each of its lattices, the tiles that can be read, and the type of each set
pub record Info : Type 0 where
  pub schema : Schema
  pub stars : List Star
  pub tiles : List TileInfo
  pub sets : List (Option RelType)

-- a schema has no lattices yet
abbrev pub info_of : Schema → List TileInfo → List (Option RelType) → Info
info_of schema tiles sets = record { schema = schema; stars = []; tiles = tiles; sets = sets }

-- None of a set that isn't there
abbrev pub set_at : List (Option RelType) → ℕ → Option RelType
set_at sets k = unwrap_or (slice_get sets k) None
