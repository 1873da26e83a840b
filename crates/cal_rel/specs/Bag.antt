-- The rows that a tree means over a database, given the rows that stand in its holes.
use Rattle.std.specs.Prelude.{ℕ, ◌+◌, List, [], length, map, filter, option_map, unwrap_or, slice_get}
use Rattle.std.specs.List.{flat_map}
use Rattle.cal_schema.specs.declared.database.Db.{Db}
use Rattle.cal_schema.specs.declared.schema.Schema.{Schema}
use Rattle.cal_schema.specs.declared.tile.TileKey.{TileKey}
use Rattle.cal_rel.specs.Info.{Info, set_at}
use Rattle.cal_rel.specs.Operators.{Row, holds, projected, joined, called, grouped}
use Rattle.cal_rel.specs.Tiles.{table_rows, dims_of, calls_of, tile_rows}
use Rattle.cal_rel.specs.Tree.{Leaf, scan, tile_scan, star_scan, empty_of, Unary, filter_by, project_to, aggregate_by, Binary, join_on, Tree, leaf, unary, binary, hole}

-- ---- how many columns rows have

abbrev pub table_width : Schema → ℕ → ℕ
table_width schema table = unwrap_or (option_map (λ t. length t.columns) (slice_get schema.tables table)) 0

abbrev pub star_width : Info → ℕ → ℕ
star_width info lattice = unwrap_or (option_map (λ star. table_width info.schema star.table) (slice_get info.stars lattice)) 0

abbrev pub tile_width : Info → TileKey → ℕ
tile_width info key = unwrap_or (option_map (λ star. length (dims_of star.dims key.dims) + length (calls_of key.measures)) (slice_get info.stars key.lattice)) 0

abbrev pub set_width : Info → ℕ → ℕ
set_width info set = unwrap_or (option_map (λ t. length t.columns) (set_at info.sets set)) 0

abbrev pub leaf_width : Info → Leaf → ℕ
leaf_width info (scan table) = table_width info.schema table
leaf_width info (tile_scan at) = unwrap_or (option_map (λ tile. tile_width info tile.key) (slice_get info.tiles at)) 0
leaf_width info (star_scan lattice) = star_width info lattice
leaf_width info (empty_of types) = length types

abbrev pub unary_width : Unary → ℕ → ℕ
unary_width (filter_by predicate) width = width
unary_width (project_to items) width = length items
unary_width (aggregate_by groups calls) width = length groups + length calls

abbrev pub width : Info → Tree → ℕ
width info (leaf l) = leaf_width info l
width info (unary u t) = unary_width u (width info t)
width info (binary b s t) = width info s + width info t
width info (hole set) = set_width info set

-- ---- rows

abbrev pub star_rows : Info → Db → ℕ → List Row
star_rows info db lattice = unwrap_or (option_map (λ star. table_rows db star.table) (slice_get info.stars lattice)) []

abbrev pub rows_of_tile : Info → Db → TileKey → List Row
rows_of_tile info db key = unwrap_or (option_map (λ star. tile_rows star key (table_rows db star.table)) (slice_get info.stars key.lattice)) []

abbrev pub leaf_bag : Info → Db → Leaf → List Row
leaf_bag info db (scan table) = table_rows db table
leaf_bag info db (tile_scan at) = unwrap_or (option_map (λ tile. rows_of_tile info db tile.key) (slice_get info.tiles at)) []
leaf_bag info db (star_scan lattice) = star_rows info db lattice
leaf_bag info db (empty_of types) = []

abbrev pub unary_bag : Unary → List Row → List Row
unary_bag (filter_by predicate) rows = filter (holds predicate) rows
unary_bag (project_to items) rows = map (projected items) rows
unary_bag (aggregate_by groups calls) rows = grouped groups (called calls) rows

-- right rows have so many columns
abbrev pub binary_bag : Binary → ℕ → List Row → List Row → List Row
binary_bag (join_on kind on) width left right = flat_map (joined kind on width right) left

abbrev pub bag : Info → Db → (ℕ → List Row) → Tree → List Row
bag info db holes (leaf l) = leaf_bag info db l
bag info db holes (unary u t) = unary_bag u (bag info db holes t)
bag info db holes (binary b s t) = binary_bag b (width info t) (bag info db holes s) (bag info db holes t)
bag info db holes (hole set) = holes set
