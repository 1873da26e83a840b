-- What a snapshot holds: the rows of each part.
use Rattle.std.specs.Prelude.{ℕ, ◌≡◌, ◌==◌, List, [], length, replicate, Option, position, slice_get, unwrap_or}
use Rattle.std.specs.Option.{option_and_then}
use Rattle.cal_value.specs.declared.value.Value.{Value}
use Rattle.cal_schema.specs.declared.tile.TileInfo.{TileInfo}
use Rattle.cal_snapshot.specs.declared.part.Part.{Part}
use Rattle.cal_snapshot.specs.declared.part.Part.TheVariants.{Table, Tile}

-- the rows and the version of each table, by number; the tiles, and the rows of each of them
pub record Parts : Type 0 where
  pub tables : List (List (List Value))
  pub versions : List ℕ
  pub tiles : List TileInfo
  pub tile_rows : List (List (List Value))

-- each table has a version, and each tile rows
pub record AreParts (parts : Parts) : Type 0 where
  pub versions : length parts.versions ≡ length parts.tables
  pub tile_rows : length parts.tile_rows ≡ length parts.tiles

-- the place of the tile of this instance
abbrev pub tile_place : Parts → ℕ → Option ℕ
tile_place parts instance = position (λ t. t.instance == instance) parts.tiles

-- the rows of a part that is there
abbrev pub rows_of : Parts → Part → Option (List (List Value))
rows_of parts (Table table) = slice_get parts.tables table
rows_of parts (Tile instance) = option_and_then (λ place. slice_get parts.tile_rows place) (tile_place parts instance)

-- the row at a place of a part, counted from 0
abbrev pub row_at : Parts → Part → ℕ → Option (List Value)
row_at parts part at = option_and_then (λ rows. slice_get rows at) (rows_of parts part)

-- the rows of a table
abbrev pub rows_in : Parts → ℕ → List (List Value)
rows_in parts table = unwrap_or (slice_get parts.tables table) []

-- the first snapshot of these tables
abbrev pub start_of : List (List (List Value)) → Parts
start_of tables = record { tables = tables; versions = replicate (length tables) 1; tiles = []; tile_rows = [] }
