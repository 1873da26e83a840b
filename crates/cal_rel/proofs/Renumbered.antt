-- Other numbers for sets, and trees in the places of holes.
use Rattle.std.proofs.Common.{◌≡◌, ℕ, ◌+◌, Bool, List, map, Option, Some, None, length, refl, ◌∙◌, ap}
use mathlib.Core.Path.{ap₂}
use Rattle.std.specs.Prelude.{option_map, unwrap_or}
use Rattle.std.specs.Option.{option_and_then}
use Rattle.cal_schema.specs.declared.database.Db.{Db}
use Rattle.cal_schema.specs.declared.rel_type.RelType.{RelType}
use Rattle.cal_schema.specs.declared.schema.Schema.{Schema}
use Rattle.cal_schema.specs.declared.tile.TileInfo.{TileInfo}
use Rattle.cal_rel.specs.Bag.{bag, width, leaf_width, leaf_bag, unary_width, unary_bag, binary_bag, set_width}
use Rattle.cal_rel.specs.Holes.{renumbered, filled, EachHole, DiffersInSets, Renumbers}
use Rattle.cal_rel.specs.Info.{Info, Star, set_at}
use Rattle.cal_rel.specs.Operators.{Row}
use Rattle.cal_rel.specs.Tree.{Leaf, scan, tile_scan, star_scan, empty_of, filter_by, project_to, aggregate_by, Binary, join_on, Tree, leaf, unary, binary, hole}
use Rattle.cal_rel.specs.Typing.{type_of, leaf_type, unary_type, binary_type, of_both, is_keyed, keyed, join_type, Keyed, pairs_of}
use Rattle.cal_expr.specs.declared.expr.Expr.{Expr}

-- the same but for the sets
abbrev with_sets : Info → List (Option RelType) → Info
with_sets info sets = record info { sets = sets }

abbrev made : Schema → List Star → List TileInfo → List (Option RelType) → Info
made schema stars tiles sets = record { schema = schema; stars = stars; tiles = tiles; sets = sets }

pub same-info : (from to : Info) → DiffersInSets from to → to ≡ record from { sets = to.sets }
same-info from to h =
    ap (λ x. made x to.stars to.tiles to.sets) h.schema ∙ ap (λ x. made from.schema x to.tiles to.sets) h.stars ∙ ap (λ x. made from.schema from.stars x to.sets) h.tiles

-- ---- what doesn't look at the sets

leaf_width-sets : (info : Info) (sets : List (Option RelType)) (l : Leaf) → leaf_width (with_sets info sets) l ≡ leaf_width info l
leaf_width-sets info sets (scan table) = refl
leaf_width-sets info sets (tile_scan at) = refl
leaf_width-sets info sets (star_scan lattice) = refl
leaf_width-sets info sets (empty_of types) = refl

leaf_bag-sets : (info : Info) (sets : List (Option RelType)) (db : Db) (l : Leaf) → leaf_bag (with_sets info sets) db l ≡ leaf_bag info db l
leaf_bag-sets info sets db (scan table) = refl
leaf_bag-sets info sets db (tile_scan at) = refl
leaf_bag-sets info sets db (star_scan lattice) = refl
leaf_bag-sets info sets db (empty_of types) = refl

pub leaf_type-sets : (info : Info) (sets : List (Option RelType)) (l : Leaf) → leaf_type (with_sets info sets) l ≡ leaf_type info l
leaf_type-sets info sets (scan table) = refl
leaf_type-sets info sets (tile_scan at) = refl
leaf_type-sets info sets (star_scan lattice) = refl
leaf_type-sets info sets (empty_of types) = refl

pub is_keyed-sets : (info : Info) (sets : List (Option RelType)) (m : ℕ → ℕ) (t : Tree) (columns : List ℕ) → is_keyed (with_sets info sets) (renumbered m t) columns ≡ is_keyed info t columns
is_keyed-sets info sets m (leaf (scan table)) columns = refl
is_keyed-sets info sets m (leaf (tile_scan at)) columns = refl
is_keyed-sets info sets m (leaf (star_scan lattice)) columns = refl
is_keyed-sets info sets m (leaf (empty_of types)) columns = refl
is_keyed-sets info sets m (unary (filter_by predicate) t) columns = is_keyed-sets info sets m t columns
is_keyed-sets info sets m (unary (project_to items) t) columns = refl
is_keyed-sets info sets m (unary (aggregate_by groups calls) t) columns = refl
is_keyed-sets info sets m (binary b s t) columns = refl
is_keyed-sets info sets m (hole set) columns = refl

abbrev keyed_of : Bool → Bool → Keyed
keyed_of l r = record { left = l; right = r }

pub keyed-sets : (info : Info) (sets : List (Option RelType)) (m : ℕ → ℕ) (width : ℕ) (on : Expr) (s t : Tree)
    → keyed (with_sets info sets) width on (renumbered m s) (renumbered m t) ≡ keyed info width on s t
keyed-sets info sets m width on s t =
    ap₂ keyed_of (is_keyed-sets info sets m s (map (λ p. p.left) (pairs_of width on))) (is_keyed-sets info sets m t (map (λ p. p.right) (pairs_of width on)))

pub binary_type-sets : (info : Info) (sets : List (Option RelType)) (m : ℕ → ℕ) (b : Binary) (s t : Tree) (u v : RelType)
    → binary_type (with_sets info sets) b (renumbered m s) (renumbered m t) u v ≡ binary_type info b s t u v
binary_type-sets info sets m (join_on kind on) s t u v = ap (λ k. join_type kind on k u v) (keyed-sets info sets m (length u.columns) on s t)

-- ---- the same types of sets under other numbers

of_both-ext : (f g : RelType → RelType → Option RelType) → ((u v : RelType) → f u v ≡ g u v) → (o p : Option RelType) → of_both f o p ≡ of_both g o p
of_both-ext f g h None p = refl
of_both-ext f g h (Some u) None = refl
of_both-ext f g h (Some u) (Some v) = h u v

module _ (m : ℕ → ℕ) (info : Info) (sets : List (Option RelType)) (same : (k : ℕ) → set_at sets (m k) ≡ set_at info.sets k) where
  abbrev other : Info
  other = with_sets info sets

  width-renumbered : (t : Tree) → width other (renumbered m t) ≡ width info t
  width-renumbered (leaf l) = leaf_width-sets info sets l
  width-renumbered (unary u t) = ap (unary_width u) (width-renumbered t)
  width-renumbered (binary b s t) = ap₂ (λ j k. j + k) (width-renumbered s) (width-renumbered t)
  width-renumbered (hole set) = ap (λ o. unwrap_or (option_map (λ (t : RelType). length t.columns) o) 0) (same set)

  type-renumbered : (t : Tree) → type_of other (renumbered m t) ≡ type_of info t
  type-renumbered (leaf l) = leaf_type-sets info sets l
  type-renumbered (unary u t) = ap (option_and_then (unary_type u)) (type-renumbered t)
  type-renumbered (binary b s t) =
      of_both-ext (binary_type other b (renumbered m s) (renumbered m t)) (binary_type info b s t) (binary_type-sets info sets m b s t) (type_of other (renumbered m s)) (type_of other (renumbered m t))
      ∙ ap₂ (of_both (binary_type info b s t)) (type-renumbered s) (type-renumbered t)
  type-renumbered (hole set) = same set

  bag-renumbered : (db : Db) (holes : ℕ → List Row) (t : Tree) → bag other db holes (renumbered m t) ≡ bag info db (λ k. holes (m k)) t
  bag-renumbered db holes (leaf l) = leaf_bag-sets info sets db l
  bag-renumbered db holes (unary u t) = ap (unary_bag u) (bag-renumbered db holes t)
  bag-renumbered db holes (binary b s t) =
      ap (λ n. binary_bag b n (bag other db holes (renumbered m s)) (bag other db holes (renumbered m t))) (width-renumbered t)
      ∙ ap₂ (binary_bag b (width info t)) (bag-renumbered db holes s) (bag-renumbered db holes t)
  bag-renumbered db holes (hole set) = refl

pub types-renumbered : (m : ℕ → ℕ) (from to : Info) (tree : Tree) → Renumbers m from to → type_of to (renumbered m tree) ≡ type_of from tree
types-renumbered m from to tree h = ap (λ i. type_of i (renumbered m tree)) (same-info from to h.else) ∙ type-renumbered m from to.sets h.sets tree

pub rows-renumbered : (m : ℕ → ℕ) (from to : Info) (db : Db) (holes : ℕ → List Row) (tree : Tree) → Renumbers m from to
    → bag to db holes (renumbered m tree) ≡ bag from db (λ k. holes (m k)) tree
rows-renumbered m from to db holes tree h = ap (λ i. bag i db holes (renumbered m tree)) (same-info from to h.else) ∙ bag-renumbered m from to.sets h.sets db holes tree

-- ---- trees in the places of holes

-- each tree has as many columns as the set whose place it takes
abbrev pub FillWidths : Info → (ℕ → Tree) → Tree → Type 0
FillWidths info g tree = EachHole (λ k. width info (g k) ≡ set_width info k) tree

pub width-filled : (info : Info) (g : ℕ → Tree) (t : Tree) → FillWidths info g t → width info (filled g t) ≡ width info t
width-filled info g (leaf l) h = refl
width-filled info g (unary u t) h = ap (unary_width u) (width-filled info g t h)
width-filled info g (binary b s t) h = ap₂ (λ j k. j + k) (width-filled info g s h.0) (width-filled info g t h.1)
width-filled info g (hole set) h = h

pub bag-filled : (info : Info) (db : Db) (holes : ℕ → List Row) (g : ℕ → Tree) (t : Tree) → FillWidths info g t
    → bag info db holes (filled g t) ≡ bag info db (λ k. bag info db holes (g k)) t
bag-filled info db holes g (leaf l) h = refl
bag-filled info db holes g (unary u t) h = ap (unary_bag u) (bag-filled info db holes g t h)
bag-filled info db holes g (binary b s t) h =
    ap (λ n. binary_bag b n (bag info db holes (filled g s)) (bag info db holes (filled g t))) (width-filled info g t h.1)
    ∙ ap₂ (binary_bag b (width info t)) (bag-filled info db holes g s h.0) (bag-filled info db holes g t h.1)
bag-filled info db holes g (hole set) h = refl
