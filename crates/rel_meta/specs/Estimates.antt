-- How many rows a tree is thought to have.
use Rattle.std.specs.Prelude.{ℕ, ◌+◌, ◌-◌, ◌*◌, ◌/◌, ◌^◌, min, max, Bool, true, false, List, [], ◌∷◌, length, map, option_map, unwrap_or, slice_get, slice_index_or}
use Rattle.cal_schema.specs.declared.join_kind.JoinKind.{JoinKind}
use Rattle.cal_schema.specs.declared.join_kind.JoinKind.TheVariants.{Inner, Left}
use Rattle.cal_schema.specs.declared.star_pair.StarPair.{StarPair}
use Rattle.cal_schema.specs.declared.tile.TileInfo.{TileInfo}
use Rattle.cal_rel.specs.Bag.{width}
use Rattle.cal_rel.specs.Info.{Info}
use Rattle.cal_rel.specs.Tree.{Leaf, scan, tile_scan, star_scan, empty_of, Unary, filter_by, project_to, aggregate_by, Binary, join_on, Tree, leaf, unary, binary, hole}
use Rattle.cal_rel.specs.Typing.{pairs_of}
use Rattle.cal_snapshot.specs.Parts.{Parts}

-- no estimate is greater than 2^100
abbrev pub cut : ℕ → ℕ
cut n = min n (2 ^ 100)

-- how many rows each table of a snapshot has, by its number
abbrev pub table_counts : Parts → List ℕ
table_counts parts = map length parts.tables

-- none of a table that isn't there
abbrev pub rows_of_table : List ℕ → ℕ → ℕ
rows_of_table counts table = slice_index_or counts table 0

-- of the tile at a place
abbrev pub rows_of_tile : List TileInfo → ℕ → ℕ
rows_of_tile tiles at = unwrap_or (option_map (λ tile. tile.rows) (slice_get tiles at)) 0

-- of a lattice's table
abbrev pub rows_of_star : Info → List ℕ → ℕ → ℕ
rows_of_star info counts lattice = unwrap_or (option_map (λ star. rows_of_table counts star.table) (slice_get info.stars lattice)) 0

-- ---- nodes, over the estimates of their inputs

-- the rows there are
abbrev pub leaf_rows : Info → List ℕ → Leaf → ℕ
leaf_rows info counts (scan table) = rows_of_table counts table
leaf_rows info counts (tile_scan at) = rows_of_tile info.tiles at
leaf_rows info counts (star_scan lattice) = rows_of_star info counts lattice
leaf_rows info counts (empty_of types) = 0

-- half of them, rounded up
abbrev pub half : ℕ → ℕ
half e = (e + 1) / 2

-- one group without group columns
abbrev pub group_rows : List ℕ → ℕ → ℕ
group_rows [] e = 1
group_rows (column ∷ columns) e = half e

abbrev pub unary_rows : Unary → ℕ → ℕ
unary_rows (filter_by predicate) e = half e
unary_rows (project_to items) e = e
unary_rows (aggregate_by groups calls) e = group_rows groups e

-- whether some conjunct equates a column of each side
abbrev pub has_pair : List StarPair → Bool
has_pair [] = false
has_pair (pair ∷ pairs) = true

abbrev pub inner_rows : Bool → ℕ → ℕ → ℕ
inner_rows true l r = max l r
inner_rows false l r = l * r

-- a left join has each left row at least once
abbrev pub join_rows : JoinKind → Bool → ℕ → ℕ → ℕ
join_rows Inner equated l r = inner_rows equated l r
join_rows Left equated l r = max l (inner_rows equated l r)

abbrev pub binary_rows : Binary → ℕ → ℕ → ℕ → ℕ
binary_rows (join_on kind on) width l r = join_rows kind (has_pair (pairs_of width on)) l r

-- ---- the tree

-- each node's is cut; a hole has none
abbrev pub estimate : Info → List ℕ → Tree → ℕ
estimate info counts (leaf l) = cut (leaf_rows info counts l)
estimate info counts (unary u t) = cut (unary_rows u (estimate info counts t))
estimate info counts (binary b s t) = cut (binary_rows b (width info s) (estimate info counts s) (estimate info counts t))
estimate info counts (hole set) = 0

-- for the code, which counts columns no further
abbrev pub counted : ℕ → ℕ
counted n = min n (2 ^ 64 - 1)
