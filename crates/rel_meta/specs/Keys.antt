-- The unique keys that are found of a tree, each a list of its columns.
use Rattle.std.specs.Prelude.{ℕ, ◌+◌, ◌==◌, Bool, false, List, [], ◌∷◌, ◌++◌, length, map, Option, Some, slice_get, position, filter_map, flat_map, if◌then◌else◌}
use Rattle.std.specs.List.{list_all, list_any, range_with_len}
use Rattle.std.specs.Option.{option_map_or}
use Rattle.cal_expr.specs.declared.expr.Expr.{Expr}
use Rattle.cal_schema.specs.declared.join_kind.JoinKind.{JoinKind}
use Rattle.cal_schema.specs.declared.join_kind.JoinKind.TheVariants.{Inner, Left}
use Rattle.cal_schema.specs.declared.schema.Schema.{Schema}
use Rattle.cal_schema.specs.declared.star_pair.StarPair.{StarPair}
use Rattle.cal_schema.specs.declared.tile.TileKey.{TileKey}
use Rattle.cal_rel.specs.Bag.{width}
use Rattle.cal_rel.specs.Info.{Info}
use Rattle.cal_rel.specs.Tiles.{dims_of}
use Rattle.cal_rel.specs.Tree.{Leaf, scan, tile_scan, star_scan, empty_of, Unary, filter_by, project_to, aggregate_by, Binary, join_on, Tree, leaf, unary, binary, hole}
use Rattle.cal_rel.specs.Typing.{of_both, equated, pairs_of, is_among}

-- some key has each of its columns among these
abbrev pub holds_key : List ℕ → List (List ℕ) → Bool
holds_key columns keys = list_any (λ key. list_all (is_among columns) key) keys

-- so many first columns
abbrev pub first_columns : ℕ → List ℕ
first_columns n = range_with_len 0 n

-- ---- leaves

-- the primary key, where there is one
abbrev pub primary : List ℕ → List (List ℕ)
primary [] = []
primary (column ∷ columns) = (column ∷ columns) ∷ []

abbrev pub table_keys : Schema → ℕ → List (List ℕ)
table_keys schema table = option_map_or (λ t. primary t.primary_key) (slice_get schema.tables table) []

abbrev pub star_keys : Info → ℕ → List (List ℕ)
star_keys info lattice = option_map_or (λ star. table_keys info.schema star.table) (slice_get info.stars lattice) []

-- all dimensions
abbrev pub tile_keys : Info → TileKey → List (List ℕ)
tile_keys info key = option_map_or (λ star. first_columns (length (dims_of star.dims key.dims)) ∷ []) (slice_get info.stars key.lattice) []

-- no rows have the empty key
abbrev pub leaf_keys : Info → Leaf → List (List ℕ)
leaf_keys info (scan table) = table_keys info.schema table
leaf_keys info (tile_scan at) = option_map_or (λ tile. tile_keys info tile.key) (slice_get info.tiles at) []
leaf_keys info (star_scan lattice) = star_keys info lattice
leaf_keys info (empty_of types) = [] ∷ []

-- ---- one input

-- the column that an item is, where it is one
abbrev pub column_in : Expr → Option ℕ
column_in item = (equated 0 item).column

abbrev pub is_column : ℕ → Expr → Bool
is_column column item = option_map_or (λ other. other == column) (column_in item) false

-- the place of the first item that is this column
abbrev pub place_of : List Expr → ℕ → Option ℕ
place_of items column = position (is_column column) items

-- what each element gives, and none where one gives none
abbrev pub each_of : {A B : Type 0} → (A → Option B) → List A → Option (List B)
each_of f [] = Some []
each_of f (x ∷ xs) = of_both (λ y ys. Some (y ∷ ys)) (f x) (each_of f xs)

-- a project keeps keys of which each column is an item; all groups are a key, without groups the empty one
abbrev pub unary_keys : Unary → List (List ℕ) → List (List ℕ)
unary_keys (filter_by predicate) keys = keys
unary_keys (project_to items) keys = filter_map (each_of (place_of items)) keys
unary_keys (aggregate_by groups calls) keys = first_columns (length groups) ∷ []

-- ---- joins

-- columns of right rows, where left rows have so many columns
abbrev pub shifted : ℕ → List ℕ → List ℕ
shifted width key = map (λ column. width + column) key

-- each left key with each right key
abbrev pub paired : ℕ → List (List ℕ) → List (List ℕ) → List (List ℕ)
paired width left right = flat_map (λ l. map (λ r. l ++ shifted width r) right) left

-- a side's keys stay keys where each of its rows has at most one partner: some key of the other side is equated
abbrev pub kept_where : Bool → List (List ℕ) → List (List ℕ)
kept_where single keys = if single then keys else []

abbrev pub kept_left : List StarPair → List (List ℕ) → List (List ℕ) → List (List ℕ)
kept_left pairs left right = kept_where (holds_key (map (λ p. p.right) pairs) right) left

abbrev pub kept_right : List StarPair → List (List ℕ) → List (List ℕ) → List (List ℕ)
kept_right pairs left right = kept_where (holds_key (map (λ p. p.left) pairs) left) right

-- right keys aren't kept by a left join: many of its rows may have NULL in all right columns
abbrev pub join_keys : JoinKind → ℕ → List StarPair → List (List ℕ) → List (List ℕ) → List (List ℕ)
join_keys Inner width pairs left right = kept_left pairs left right ++ map (shifted width) (kept_right pairs left right) ++ paired width left right
join_keys Left width pairs left right = kept_left pairs left right ++ paired width left right

abbrev pub binary_keys : Binary → ℕ → List (List ℕ) → List (List ℕ) → List (List ℕ)
binary_keys (join_on kind on) width left right = join_keys kind width (pairs_of width on) left right

-- ---- the tree

abbrev pub unique_keys : Info → Tree → List (List ℕ)
unique_keys info (leaf l) = leaf_keys info l
unique_keys info (unary u t) = unary_keys u (unique_keys info t)
unique_keys info (binary b s t) = binary_keys b (width info s) (unique_keys info s) (unique_keys info t)
unique_keys info (hole set) = []
