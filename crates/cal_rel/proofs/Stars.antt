-- Without lattices neither a tile nor a star has a type.
use Rattle.std.proofs.Common.{◌≡◌, ℕ, List, Option, Some, None, slice_get, refl}
use Rattle.std.specs.Option.{option_and_then}
use Rattle.cal_schema.specs.declared.rel_type.RelType.{RelType}
use Rattle.cal_schema.specs.declared.schema.Schema.{Schema}
use Rattle.cal_schema.specs.declared.tile.TileInfo.{TileInfo}
use Rattle.cal_rel.specs.Info.{info_of}
use Rattle.cal_rel.specs.Tree.{tile_scan, star_scan}
use Rattle.cal_rel.specs.Typing.{leaf_type, tile_type}

none-then : {A B : Type 0} (f : A → Option B) → ((x : A) → f x ≡ None) → (o : Option A) → option_and_then f o ≡ None
none-then f h None = refl
none-then f h (Some x) = h x

pub tile-none : (schema : Schema) (tiles : List TileInfo) (sets : List (Option RelType)) (at : ℕ) → leaf_type (info_of schema tiles sets) (tile_scan at) ≡ None
tile-none schema tiles sets at = none-then (λ (tile : TileInfo). tile_type (info_of schema tiles sets) tile.key) (λ tile. refl) (slice_get tiles at)

pub star-none : (schema : Schema) (tiles : List TileInfo) (sets : List (Option RelType)) (lattice : ℕ) → leaf_type (info_of schema tiles sets) (star_scan lattice) ≡ None
star-none schema tiles sets lattice = refl
