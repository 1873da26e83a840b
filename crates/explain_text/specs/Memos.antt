-- The printed text of memos.
use Rattle.std.specs.Prelude.{ℕ, ◌==◌, List, [], ◌++◌, Bool, true, false, length, Option, option_map, unwrap_or, slice_get, is_some, codes, decimal}
use Rattle.std.specs.List.{filter, flat_map, range_with_len}
use Rattle.cal_schema.specs.declared.rel_type.RelType.{RelType}
use Rattle.cal_schema.specs.declared.schema.Schema.{Schema}
use Rattle.cal_rel.specs.Info.{set_at}
use Rattle.cal_rel.specs.Tree.{Leaf, scan, tile_scan, star_scan, empty_of, Unary, filter_by, project_to, aggregate_by, Binary, join_on, Tree, leaf, unary, binary, hole}
use Rattle.memo_model.specs.Sets.{Member, Sets}
use Rattle.explain_text.specs.declared.memos.Searched.{Searched}
use Rattle.explain_text.specs.Details.{named, table_name, tile_text, items_text, join_text, aggregate_text}
use Rattle.explain_text.specs.Expressions.{expression_text}

-- ---- members

-- the tile at this place; nothing where it isn't there
abbrev pub tile_at : List ℕ → ℕ → List ℕ
tile_at tiles at = unwrap_or (option_map tile_text (slice_get tiles at)) []

-- a schema has no lattices yet, so a star has no name
abbrev pub leaf_text : Schema → List ℕ → Leaf → List ℕ
leaf_text schema tiles (scan table) = named (codes "Scan") (table_name schema table)
leaf_text schema tiles (tile_scan at) = named (codes "TileScan") (tile_at tiles at)
leaf_text schema tiles (star_scan lattice) = named (codes "StarScan") []
leaf_text schema tiles (empty_of types) = codes "Empty"

abbrev pub unary_text : Unary → List ℕ
unary_text (filter_by predicate) = named (codes "Filter") (expression_text predicate)
unary_text (project_to items) = named (codes "Project") (items_text items)
unary_text (aggregate_by groups calls) = named (codes "Aggregate") (aggregate_text groups calls)

abbrev pub binary_text : Binary → List ℕ
binary_text (join_on kind on) = named (codes "Join") (join_text kind on)

-- the set that an input names; inputs of members are holes
abbrev pub input_text : Tree → List ℕ
input_text (leaf l) = []
input_text (unary u t) = []
input_text (binary b s t) = []
input_text (hole k) = codes " #" ++ decimal k

-- a node and its inputs
abbrev pub member_text : Schema → List ℕ → Tree → List ℕ
member_text schema tiles (leaf l) = leaf_text schema tiles l
member_text schema tiles (unary u t) = unary_text u ++ input_text t
member_text schema tiles (binary b s t) = binary_text b ++ input_text s ++ input_text t
member_text schema tiles (hole k) = input_text (hole k)

abbrev pub member_line : Schema → List ℕ → Member → List ℕ
member_line schema tiles m = codes "  " ++ member_text schema tiles m.tree ++ codes "\n"

-- ---- sets

abbrev pub members_of : List Member → ℕ → List Member
members_of members k = filter (λ m. m.set == k) members

-- 0 where none is told
abbrev pub estimate_at : List ℕ → ℕ → ℕ
estimate_at estimates k = unwrap_or (slice_get estimates k) 0

abbrev pub set_line : ℕ → ℕ → List ℕ
set_line k estimate = codes "set " ++ decimal k ++ codes " rows=" ++ decimal estimate ++ codes "\n"

-- the line of a set, then those of its members
abbrev pub set_text : Schema → List ℕ → List ℕ → List Member → ℕ → List ℕ
set_text schema estimates tiles members k = set_line k (estimate_at estimates k) ++ flat_map (member_line schema tiles) (members_of members k)

-- the numbers of the sets that are there
abbrev pub sets_there : List (Option RelType) → List ℕ
sets_there types = filter (λ k. is_some (set_at types k)) (range_with_len 0 (length types))

-- ---- a memo

abbrev pub state_text : Bool → List ℕ
state_text true = codes "complete"
state_text false = codes "stopped"

-- with how many sets there are, and how many members
abbrev pub memo_line : Searched → ℕ → ℕ → List ℕ
memo_line searched sets members =
    (codes "memo root=" ++ decimal searched.root) ++ (codes " sets=" ++ decimal sets) ++ (codes " members=" ++ decimal members) ++ (codes " firings=" ++ decimal searched.firings)
    ++ (codes " " ++ state_text searched.complete ++ codes "\n")

-- the line of the memo, then the lines of each set that is there
abbrev pub memo_text : Schema → Searched → List ℕ → List ℕ → Sets → List ℕ
memo_text schema searched estimates tiles m =
    memo_line searched (length (sets_there m.types)) (length m.members) ++ flat_map (set_text schema estimates tiles m.members) (sets_there m.types)
