-- A test that two trees are the same: that of the `Rel`s that they are.
use Rattle.std.specs.Prelude.{Bool}
use Rattle.cal_rel.specs.declared.rel.Rel.{Rel}
use Rattle.cal_rel.specs.declared.rel.Rel.TheVariants.{Scan, TileScan, StarScan, Filter, Project, Join, Aggregate, Empty, Hole}
use Rattle.cal_rel.specs.Equal.{rel_eq}
use Rattle.cal_rel.specs.Tree.{Leaf, scan, tile_scan, star_scan, empty_of, Unary, filter_by, project_to, aggregate_by, Binary, join_on, Tree, leaf, unary, binary, hole}

abbrev pub rel_of_leaf : Leaf → Rel
rel_of_leaf (scan table) = Scan table
rel_of_leaf (tile_scan at) = TileScan at
rel_of_leaf (star_scan lattice) = StarScan lattice
rel_of_leaf (empty_of types) = Empty types

abbrev pub rel_of_unary : Unary → Rel → Rel
rel_of_unary (filter_by predicate) r = Filter r predicate
rel_of_unary (project_to items) r = Project r items
rel_of_unary (aggregate_by groups calls) r = Aggregate r groups calls

abbrev pub rel_of_binary : Binary → Rel → Rel → Rel
rel_of_binary (join_on kind on) q r = Join kind q r on

-- the `Rel` whose tree this is
abbrev pub rel_of : Tree → Rel
rel_of (leaf l) = rel_of_leaf l
rel_of (unary u t) = rel_of_unary u (rel_of t)
rel_of (binary b s t) = rel_of_binary b (rel_of s) (rel_of t)
rel_of (hole k) = Hole k

unfoldable pub same_tree : Tree → Tree → Bool
same_tree s t = rel_eq (rel_of s) (rel_of t)
