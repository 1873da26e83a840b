-- Each unique key that is found of a well-formed tree has at most one row of each value; other sets change no key.
use Rattle.std.proofs.Common.{◌≡◌, ◌≢◌, ℕ, Bool, true, false, List, [], ◌∷◌, ◌++◌, map, filter, length, All, AllPairs, Option, Some, None, slice_get, refl, sym, ◌∙◌, ap, ap₂}
use Rattle.std.specs.Prelude.{option_map, unwrap_or}
use Rattle.std.specs.List.{flat_map}
use Rattle.std.specs.Option.{option_map_or}
use Rattle.std.proofs.lemmas.List.Elements.{All-nil, All-cons, All-head, All-tail, All-append, All-map, All-weaker}
use Rattle.cal_value.specs.Order.{SameBag, columns_of}
use Rattle.cal_value.specs.Types.{HasTypes}
use Rattle.cal_expr.specs.declared.expr.Expr.{Expr}
use Rattle.cal_schema.specs.declared.database.Db.{Db}
use Rattle.cal_schema.specs.declared.join_kind.JoinKind.{JoinKind}
use Rattle.cal_schema.specs.declared.join_kind.JoinKind.TheVariants.{Inner, Left}
use Rattle.cal_schema.specs.declared.rel_type.RelType.{RelType}
use Rattle.cal_schema.specs.declared.schema.Schema.{Schema}
use Rattle.cal_schema.specs.declared.table.TableDef.{TableDef}
use Rattle.cal_schema.specs.declared.tile.TileInfo.{TileInfo}
use Rattle.cal_schema.specs.declared.tile.TileKey.{TileKey}
use Rattle.cal_schema.specs.Fits.{Fits}
use Rattle.cal_schema.specs.Valid.{IsValidSchema}
use Rattle.cal_rel.specs.Bag.{bag, width, leaf_bag, unary_bag, binary_bag, rows_of_tile}
use Rattle.cal_rel.specs.Holes.{renumbered, Narrows}
use Rattle.cal_rel.specs.Info.{Info, Star}
use Rattle.cal_rel.specs.Meaning.{AreTrueOf}
use Rattle.cal_rel.specs.Operators.{Row, holds, projected, joined, called, by_key}
use Rattle.cal_rel.specs.Tiles.{table_rows, ascending, dims_of, calls_of, tile_rows}
use Rattle.cal_rel.specs.Tree.{Leaf, scan, tile_scan, star_scan, empty_of, Unary, filter_by, project_to, aggregate_by, Binary, join_on, Tree, leaf, unary, binary, hole}
use Rattle.cal_rel.specs.Typing.{pairs_of, unary_type, binary_type, type_of}
use Rattle.cal_rel.proofs.Keys.{Apart-from_AllPairs, Apart-weaker}
use Rattle.cal_rel.proofs.Narrower.{type-narrow, wide-length}
use Rattle.cal_rel.proofs.Renumbered.{same-info}
use Rattle.cal_rel.proofs.RowLemmas.{of_both-some, types-length}
use Rattle.cal_rel.proofs.TrueTypes.{and_then-some, filled-at, type-width, type-true}
use Rattle.rel_meta.specs.Keys.{holds_key, first_columns, primary, table_keys, tile_keys, leaf_keys, place_of, each_of, unary_keys, shifted, paired, kept_where, kept_left, kept_right, join_keys, binary_keys, unique_keys}
use Rattle.rel_meta.specs.Unique.{IsUniqueOn}
use Rattle.rel_meta.proofs.Once.{AtMostOnce, once-from_Apart, unique-from_once, once-same, held-key}
use Rattle.rel_meta.proofs.OnceNodes.{once-filter, once-none, once-sorted, once-by_key, once-grouped, once-projected, All-filter_map}
use Rattle.rel_meta.proofs.Joins.{once-left, once-right, once-paired}

-- ---- leaves

abbrev AreKeys : List (List ℕ) → List Row → Type 0
AreKeys keys rows = All (λ key. AtMostOnce key rows) keys

no-keys : (rows : List Row) → AreKeys [] rows
no-keys rows = All-nil (λ key. AtMostOnce key rows)

one-key : (key : List ℕ) (rows : List Row) → AtMostOnce key rows → AreKeys (key ∷ []) rows
one-key key rows h = All-cons (λ key. AtMostOnce key rows) key [] h (no-keys rows)

primary-keys : (key : List ℕ) (rows : List Row) → (key ≢ [] → AllPairs (λ a b. columns_of a key ≢ columns_of b key) rows) → AreKeys (primary key) rows
primary-keys [] rows h = no-keys rows
primary-keys (column ∷ key) rows h =
    let all = column ∷ key in
    one-key (column ∷ key) rows
    (once-from_Apart (column ∷ key) rows
    (Apart-weaker (λ a b. columns_of a all ≢ columns_of b all) (λ a b. columns_of a all ≡ columns_of b all → ⊥) (λ a b differ e. differ e) rows
    (Apart-from_AllPairs (λ a b. columns_of a all ≢ columns_of b all) rows (h (λ e. absurd (cc))))))

table-keys : (schema : Schema) (db : Db) (n : ℕ) → Fits db schema → AreKeys (table_keys schema n) (table_rows db n)
table-keys schema db n fits = by (slice_get schema.tables n) refl
  where
    by : (o : Option TableDef) → slice_get schema.tables n ≡ o → AreKeys (option_map_or (λ (t : TableDef). primary t.primary_key) o []) (table_rows db n)
    by None e = no-keys (table_rows db n)
    by (Some table) e = primary-keys table.primary_key (table_rows db n) (filled-at schema.tables db.tables n table fits e).keys

star-keys : (info : Info) (db : Db) (o : Option Star) → Fits db info.schema
    → AreKeys (option_map_or (λ (star : Star). table_keys info.schema star.table) o []) (unwrap_or (option_map (λ (star : Star). table_rows db star.table) o) [])
star-keys info db None fits = no-keys []
star-keys info db (Some star) fits = table-keys info.schema db star.table fits

tile-keys-over : (db : Db) (key : TileKey) (o : Option Star)
    → AreKeys (option_map_or (λ (star : Star). first_columns (length (dims_of star.dims key.dims)) ∷ []) o []) (unwrap_or (option_map (λ (star : Star). tile_rows star key (table_rows db star.table)) o) [])
tile-keys-over db key None = no-keys []
tile-keys-over db key (Some star) =
    let dims = dims_of star.dims key.dims in
    let calls = called (calls_of key.measures) in
    let rows = table_rows db star.table in
    one-key (first_columns (length dims)) (tile_rows star key rows)
    (once-sorted (first_columns (length dims)) (ascending (length dims)) (by_key dims calls rows) (once-by_key dims calls rows))

tile-keys : (info : Info) (db : Db) (o : Option TileInfo)
    → AreKeys (option_map_or (λ (tile : TileInfo). tile_keys info tile.key) o []) (unwrap_or (option_map (λ (tile : TileInfo). rows_of_tile info db tile.key) o) [])
tile-keys info db None = no-keys []
tile-keys info db (Some tile) = tile-keys-over db tile.key (slice_get info.stars tile.key.lattice)

leaf-keys : (info : Info) (db : Db) (l : Leaf) → Fits db info.schema → AreKeys (leaf_keys info l) (leaf_bag info db l)
leaf-keys info db (scan table) fits = table-keys info.schema db table fits
leaf-keys info db (tile_scan at) fits = tile-keys info db (slice_get info.tiles at)
leaf-keys info db (star_scan lattice) fits = star-keys info db (slice_get info.stars lattice) fits
leaf-keys info db (empty_of types) fits = one-key [] [] (once-none [])

-- ---- one input

unary-keys : (u : Unary) (keys : List (List ℕ)) (rows : List Row) → AreKeys keys rows → AreKeys (unary_keys u keys) (unary_bag u rows)
unary-keys (filter_by predicate) keys rows h =
    All-weaker (λ key. AtMostOnce key rows) (λ key. AtMostOnce key (filter (holds predicate) rows)) (λ key. once-filter key (holds predicate) rows) keys h
unary-keys (project_to items) keys rows h =
    All-filter_map (λ key. AtMostOnce key rows) (λ key. AtMostOnce key (map (projected items) rows)) (each_of (place_of items))
    (λ key placed once e. once-projected items rows key placed once e) keys h
unary-keys (aggregate_by groups calls) keys rows h = one-key (first_columns (length groups)) (unary_bag (aggregate_by groups calls) rows) (once-grouped groups (called calls) rows)

-- ---- joins

module _ (on : Expr) (n more : ℕ) (left right : List Row) (long : All (λ x. length x ≡ n) left) (ls rs : List (List ℕ)) (first : AreKeys ls left) (second : AreKeys rs right) where
  left-kept : (kind : JoinKind) → AreKeys (kept_left (pairs_of n on) ls rs) (flat_map (joined kind on more right) left)
  left-kept kind = by (holds_key (map (λ p. p.right) (pairs_of n on)) rs) refl
    where
      by : (b : Bool) → holds_key (map (λ p. p.right) (pairs_of n on)) rs ≡ b → AreKeys (kept_where b ls) (flat_map (joined kind on more right) left)
      by true e =
          let keyed = held-key (map (λ p. p.right) (pairs_of n on)) rs right second e in
          All-weaker (λ key. AtMostOnce key left) (λ key. AtMostOnce key (flat_map (joined kind on more right) left)) (λ key. once-left on n left right long kind more key keyed) ls first
      by false e = no-keys (flat_map (joined kind on more right) left)

  right-kept : AreKeys (map (shifted n) (kept_right (pairs_of n on) ls rs)) (flat_map (joined Inner on more right) left)
  right-kept = by (holds_key (map (λ p. p.left) (pairs_of n on)) ls) refl
    where
      by : (b : Bool) → holds_key (map (λ p. p.left) (pairs_of n on)) ls ≡ b → AreKeys (map (shifted n) (kept_where b rs)) (flat_map (joined Inner on more right) left)
      by true e =
          let keyed = held-key (map (λ p. p.left) (pairs_of n on)) ls left first e in
          All-map (λ key. AtMostOnce key (flat_map (joined Inner on more right) left)) (shifted n) rs
          (All-weaker (λ key. AtMostOnce key right) (λ key. AtMostOnce (shifted n key) (flat_map (joined Inner on more right) left)) (λ key. once-right on n left right long more key keyed) rs second)
      by false e = no-keys (flat_map (joined Inner on more right) left)

  with-right : (kind : JoinKind) (l : List ℕ) → AtMostOnce l left → AreKeys (map (λ r. l ++ shifted n r) rs) (flat_map (joined kind on more right) left)
  with-right kind l once =
      All-map (λ key. AtMostOnce key (flat_map (joined kind on more right) left)) (λ r. l ++ shifted n r) rs
      (All-weaker (λ key. AtMostOnce key right) (λ r. AtMostOnce (l ++ shifted n r) (flat_map (joined kind on more right) left)) (λ r. once-paired on n left right long kind more l r once) rs second)

  all-paired : (kind : JoinKind) (keys : List (List ℕ)) → AreKeys keys left → AreKeys (paired n keys rs) (flat_map (joined kind on more right) left)
  all-paired kind [] all = no-keys (flat_map (joined kind on more right) left)
  all-paired kind (l ∷ keys) all =
      All-append (λ key. AtMostOnce key (flat_map (joined kind on more right) left)) (map (λ r. l ++ shifted n r) rs) (paired n keys rs)
      (with-right kind l (All-head (λ key. AtMostOnce key left) l keys all)) (all-paired kind keys (All-tail (λ key. AtMostOnce key left) l keys all))

  join-keys : (kind : JoinKind) → AreKeys (join_keys kind n (pairs_of n on) ls rs) (flat_map (joined kind on more right) left)
  join-keys Inner =
      All-append (λ key. AtMostOnce key (flat_map (joined Inner on more right) left)) (kept_left (pairs_of n on) ls rs ++ map (shifted n) (kept_right (pairs_of n on) ls rs)) (paired n ls rs)
      (All-append (λ key. AtMostOnce key (flat_map (joined Inner on more right) left)) (kept_left (pairs_of n on) ls rs) (map (shifted n) (kept_right (pairs_of n on) ls rs)) (left-kept Inner) right-kept)
      (all-paired Inner ls first)
  join-keys Left =
      All-append (λ key. AtMostOnce key (flat_map (joined Left on more right) left)) (kept_left (pairs_of n on) ls rs) (paired n ls rs) (left-kept Left) (all-paired Left ls first)

-- ---- trees

module _ (info : Info) (db : Db) (holes : ℕ → List Row) (fits : Fits db info.schema) (true_of : AreTrueOf info.sets holes) where
  rows-long : (tree : Tree) (t : RelType) → type_of info tree ≡ Some t → All (λ row. length row ≡ width info tree) (bag info db holes tree)
  rows-long tree t e =
      All-weaker (λ row. HasTypes row t.columns) (λ row. length row ≡ width info tree) (λ row typed. types-length row t.columns typed ∙ type-width info tree t e)
      (bag info db holes tree) (type-true info db holes tree t fits true_of e).typed

  binary-keys : (b : Binary) (s t : Tree) (u : RelType) → type_of info s ≡ Some u → AreKeys (unique_keys info s) (bag info db holes s) → AreKeys (unique_keys info t) (bag info db holes t)
      → AreKeys (binary_keys b (width info s) (unique_keys info s) (unique_keys info t)) (binary_bag b (width info t) (bag info db holes s) (bag info db holes t))
  binary-keys (join_on kind on) s t u e first second =
      join-keys on (width info s) (width info t) (bag info db holes s) (bag info db holes t) (rows-long s u e) (unique_keys info s) (unique_keys info t) first second kind

  pub tree-keys : (tree : Tree) (t : RelType) → type_of info tree ≡ Some t → All (λ key. AtMostOnce key (bag info db holes tree)) (unique_keys info tree)
  tree-keys (leaf l) t e = leaf-keys info db l fits
  tree-keys (unary u x) t e =
      let m = and_then-some (unary_type u) (type_of info x) t e in
      unary-keys u (unique_keys info x) (bag info db holes x) (tree-keys x m.from m.found)
  tree-keys (binary b x y) t e =
      let m = of_both-some (binary_type info b x y) (type_of info x) (type_of info y) t e in
      binary-keys b x y m.first m.first_is (tree-keys x m.first m.first_is) (tree-keys y m.second m.second_is)
  tree-keys (hole set) t e = no-keys (holes set)

pub keys-unique : (info : Info) (tree : Tree) (t : RelType) (db : Db) (holes : ℕ → List Row) (rows : List Row) → type_of info tree ≡ Some t → Fits db info.schema → AreTrueOf info.sets holes
    → SameBag rows (bag info db holes tree) → All (λ key. IsUniqueOn key rows) (unique_keys info tree)
keys-unique info tree t db holes rows e fits true_of same =
    All-weaker (λ key. AtMostOnce key (bag info db holes tree)) (λ key. IsUniqueOn key rows)
    (λ key once. unique-from_once key rows (once-same key rows (bag info db holes tree) same once)) (unique_keys info tree) (tree-keys info db holes fits true_of tree t e)

-- ---- other sets

leaf_keys-sets : (info : Info) (sets : List (Option RelType)) (l : Leaf) → leaf_keys (record info { sets = sets }) l ≡ leaf_keys info l
leaf_keys-sets info sets (scan table) = refl
leaf_keys-sets info sets (tile_scan at) = refl
leaf_keys-sets info sets (star_scan lattice) = refl
leaf_keys-sets info sets (empty_of types) = refl

module _ (m : ℕ → ℕ) (from to : Info) (valid : IsValidSchema from.schema) (narrows : Narrows m from to) where
  pub width-steady : (tree : Tree) (t : RelType) → type_of from tree ≡ Some t → width to (renumbered m tree) ≡ width from tree
  width-steady tree t e =
      let narrow = type-narrow m from to tree t valid narrows e in
      sym (type-width to (renumbered m tree) narrow.found narrow.is) ∙ wide-length narrow.found.columns t.columns narrow.within.columns ∙ type-width from tree t e

  pub keys-steady : (tree : Tree) (t : RelType) → type_of from tree ≡ Some t → unique_keys to (renumbered m tree) ≡ unique_keys from tree
  keys-steady (leaf l) t e = ap (λ info. leaf_keys info l) (same-info from to narrows.else) ∙ leaf_keys-sets from to.sets l
  keys-steady (unary u x) t e =
      let i = and_then-some (unary_type u) (type_of from x) t e in
      ap (unary_keys u) (keys-steady x i.from i.found)
  keys-steady (binary b x y) t e =
      let i = of_both-some (binary_type from b x y) (type_of from x) (type_of from y) t e in
      ap (λ n. binary_keys b n (unique_keys to (renumbered m x)) (unique_keys to (renumbered m y))) (width-steady x i.first i.first_is)
      ∙ ap₂ (binary_keys b (width from x)) (keys-steady x i.first i.first_is) (keys-steady y i.second i.second_is)
  keys-steady (hole set) t e = refl
