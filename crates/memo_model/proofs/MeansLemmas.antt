-- Trees that mean the same, and trees that ask for no set.
use Rattle.std.proofs.Common.{◌≡◌, ℕ, ◌+◌, ◌<◌, List, [], length, map, Option, Some, None, refl, sym, ◌∙◌, ap, subst}
use mathlib.Core.Path.{ap₂}
use Rattle.std.specs.Prelude.{option_map, unwrap_or, slice_get}
use Rattle.std.specs.Option.{option_and_then}
use Rattle.std.proofs.lemmas.Option.{slice_get_within}
use Rattle.cal_value.specs.Order.{SameBag}
use Rattle.cal_schema.specs.declared.database.Db.{Db}
use Rattle.cal_schema.specs.declared.rel_type.RelType.{RelType}
use Rattle.cal_schema.specs.declared.tile.TileInfo.{TileInfo}
use Rattle.cal_rel.specs.Bag.{bag, width, leaf_width, leaf_bag, unary_width, unary_bag, binary_bag, set_width}
use Rattle.cal_rel.specs.Holes.{filled, EachHole}
use Rattle.cal_rel.specs.Info.{Info, set_at}
use Rattle.cal_rel.specs.Meaning.{AreTrueOf, MeansTheSame}
use Rattle.cal_rel.specs.Operators.{Row}
use Rattle.cal_rel.specs.Tree.{Leaf, scan, tile_scan, star_scan, empty_of, Unary, Binary, Tree, leaf, unary, binary, hole}
use Rattle.cal_rel.specs.Typing.{type_of, leaf_type, tile_type, star_type, table_type, unary_type, binary_type}
use Rattle.cal_schema.specs.RelType.{met_rel_type}
use Rattle.cal_rel.proofs.MoreLaws.{true-same}
use Rattle.cal_rel.proofs.RowLemmas.{of_both-some}
use Rattle.cal_rel.proofs.SameBags.{same-unary, same-binary}
use Rattle.cal_rel.proofs.Totals.{Weighs-from_SameBag, SameBag-from_Weighs, weighs-refl}
use Rattle.cal_rel.proofs.TrueTypes.{option_map-some, and_then-some}
use Rattle.memo_model.specs.Sound.{over, IsLeafOf, IsClosed, AreSame, IsTypeOf}
use Rattle.memo_model.proofs.TypeLemmas.{true-meet}

-- ---- the same bag

module _ (info : Info) where
  pub means-refl : (a : Tree) → MeansTheSame info a a
  means-refl a = record { columns = refl; rows = λ db holes fits true_of row. refl }

  pub means-sym : (a b : Tree) → MeansTheSame info a b → MeansTheSame info b a
  means-sym a b h = record { columns = sym h.columns; rows = λ db holes fits true_of row. sym (h.rows db holes fits true_of row) }

  pub means-trans : (a b c : Tree) → MeansTheSame info a b → MeansTheSame info b c → MeansTheSame info a c
  means-trans a b c h k = record { columns = h.columns ∙ k.columns; rows = λ db holes fits true_of row. h.rows db holes fits true_of row ∙ k.rows db holes fits true_of row }

  pub means-unary : (u : Unary) (a b : Tree) → MeansTheSame info a b → MeansTheSame info (unary u a) (unary u b)
  means-unary u a b h = record {
    columns = ap (unary_width u) h.columns;
    rows = λ db holes fits true_of.
        let p = bag info db holes a in
        let q = bag info db holes b in
        SameBag-from_Weighs (unary_bag u p) (unary_bag u q) (same-unary u p q (Weighs-from_SameBag p q (h.rows db holes fits true_of)));
  }

  pub means-binary : (n : Binary) (a b c d : Tree) → MeansTheSame info a c → MeansTheSame info b d → MeansTheSame info (binary n a b) (binary n c d)
  means-binary n a b c d h k = record {
    columns = ap₂ (λ x y. x + y) h.columns k.columns;
    rows = λ db holes fits true_of.
        let p = bag info db holes a in
        let q = bag info db holes b in
        let r = bag info db holes c in
        let s = bag info db holes d in
        let on : SameBag (binary_bag n (width info b) p q) (binary_bag n (width info b) r s) =
        SameBag-from_Weighs (binary_bag n (width info b) p q) (binary_bag n (width info b) r s)
        (same-binary n (width info b) p r q s (Weighs-from_SameBag p r (h.rows db holes fits true_of)) (Weighs-from_SameBag q s (k.rows db holes fits true_of))) in
        subst (λ w. SameBag (binary_bag n (width info b) p q) (binary_bag n w r s)) k.columns on;
  }

  -- trees in the place of holes that mean the same
  pub means-filled : (g h : ℕ → Tree) (t : Tree) → EachHole (λ k. MeansTheSame info (g k) (h k)) t → MeansTheSame info (filled g t) (filled h t)
  means-filled g h (leaf l) e = means-refl (leaf l)
  means-filled g h (unary u t) e = means-unary u (filled g t) (filled h t) (means-filled g h t e)
  means-filled g h (binary b s t) e = means-binary b (filled g s) (filled g t) (filled h s) (filled h t) (means-filled g h s e.0) (means-filled g h t e.1)
  means-filled g h (hole k) e = e

-- ---- trees without holes

leaf_width-over : (info : Info) (types : List (Option RelType)) (l : Leaf) → leaf_width (over info types) l ≡ leaf_width info l
leaf_width-over info types (scan table) = refl
leaf_width-over info types (tile_scan at) = refl
leaf_width-over info types (star_scan lattice) = refl
leaf_width-over info types (empty_of ts) = refl

leaf_bag-over : (info : Info) (types : List (Option RelType)) (db : Db) (l : Leaf) → leaf_bag (over info types) db l ≡ leaf_bag info db l
leaf_bag-over info types db (scan table) = refl
leaf_bag-over info types db (tile_scan at) = refl
leaf_bag-over info types db (star_scan lattice) = refl
leaf_bag-over info types db (empty_of ts) = refl

pub width-closed : (info : Info) (types : List (Option RelType)) (t : Tree) → IsClosed info t → width (over info types) t ≡ width (over info []) t
width-closed info types (leaf l) h = leaf_width-over info types l ∙ sym (leaf_width-over info [] l)
width-closed info types (unary u t) h = ap (unary_width u) (width-closed info types t h)
width-closed info types (binary b s t) h = ap₂ (λ x y. x + y) (width-closed info types s h.0) (width-closed info types t h.1)
width-closed info types (hole k) h = absurd h

pub bag-closed : (info : Info) (types : List (Option RelType)) (db : Db) (holes others : ℕ → List Row) (t : Tree) → IsClosed info t
    → bag (over info types) db holes t ≡ bag (over info []) db others t
bag-closed info types db holes others (leaf l) h = leaf_bag-over info types db l ∙ sym (leaf_bag-over info [] db l)
bag-closed info types db holes others (unary u t) h = ap (unary_bag u) (bag-closed info types db holes others t h)
bag-closed info types db holes others (binary b s t) h =
    ap (λ n. binary_bag b n (bag (over info types) db holes s) (bag (over info types) db holes t)) (width-closed info types t h.1)
    ∙ ap₂ (binary_bag b (width (over info []) t)) (bag-closed info types db holes others s h.0) (bag-closed info types db holes others t h.1)
bag-closed info types db holes others (hole k) h = absurd h

-- ---- types of trees without holes

no_sets : (holes : ℕ → List Row) → AreTrueOf [] holes
no_sets holes = record { each = λ k t e. absurd (cc) }

pub type-same : (info : Info) (t : RelType) (a b : Tree) → IsTypeOf info t a → AreSame info a b → IsTypeOf info t b
type-same info t a b h same = λ db holes fits.
    true-same t (bag (over info []) db holes a) (bag (over info []) db holes b) (same.rows db holes fits (no_sets holes)) (h db holes fits)

pub type-meet : (info : Info) (s t : RelType) (a : Tree) → IsTypeOf info s a → IsTypeOf info t a → IsTypeOf info (met_rel_type s t) a
type-meet info s t a h k = λ db holes fits. true-meet s t (bag (over info []) db holes a) (h db holes fits) (k db holes fits)

-- each leaf of a well-formed tree is there

leaf-there : (info : Info) (l : Leaf) (t : RelType) → leaf_type info l ≡ Some t → IsLeafOf info l
leaf-there info (scan table) t e = let m = option_map-some table_type (slice_get info.schema.tables table) t e in slice_get_within info.schema.tables table m.from m.found
leaf-there info (tile_scan at) t e =
    let m = and_then-some (λ (tile : TileInfo). tile_type info tile.key) (slice_get info.tiles at) t e in
    slice_get_within info.tiles at m.from m.found
leaf-there info (star_scan lattice) t e = let m = and_then-some (star_type info) (slice_get info.stars lattice) t e in slice_get_within info.stars lattice m.from m.found
leaf-there info (empty_of types) t e = tt

-- trees without holes in the place of the holes of a well-formed tree
pub closed-filled : (info : Info) (types : List (Option RelType)) (g : ℕ → Tree) (x : Tree) (t : RelType) → type_of (over info types) x ≡ Some t → EachHole (λ k. IsClosed info (g k)) x
    → IsClosed info (filled g x)
closed-filled info types g (leaf l) t e h = closed_leaf l (leaf-there (over info types) l t e)
  where
    closed_leaf : (l : Leaf) → IsLeafOf (over info types) l → IsLeafOf info l
    closed_leaf (scan table) h = h
    closed_leaf (tile_scan at) h = h
    closed_leaf (star_scan lattice) h = h
    closed_leaf (empty_of ts) h = h
closed-filled info types g (unary u x) t e h =
    let m = and_then-some (unary_type u) (type_of (over info types) x) t e in
    closed-filled info types g x m.from m.found h
closed-filled info types g (binary b x y) t e h =
    let m = of_both-some (binary_type (over info types) b x y) (type_of (over info types) x) (type_of (over info types) y) t e in
    (closed-filled info types g x m.first m.first_is h.0, closed-filled info types g y m.second m.second_is h.1)
closed-filled info types g (hole k) t e h = h
