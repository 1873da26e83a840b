-- A plan of a set of a sound memo means what the set means.
use Rattle.std.proofs.Common.{◌≡◌, ℕ, List, [], ◌∷◌, length, Option, Some, None, slice_get, refl, sym, ◌∙◌, ap, subst}
use Rattle.std.specs.Prelude.{option_map, unwrap_or}
use Rattle.cal_value.specs.declared.order.KeyOrder.{KeyOrder}
use Rattle.cal_expr.specs.declared.expr.Expr.{Expr}
use Rattle.cal_schema.specs.declared.database.Db.{Db}
use Rattle.cal_schema.specs.declared.join_kind.JoinKind.{JoinKind}
use Rattle.cal_schema.specs.declared.join_kind.JoinKind.TheVariants.{Inner, Left}
use Rattle.cal_schema.specs.declared.rel_type.RelType.{RelType}
use Rattle.cal_schema.specs.declared.star_pair.StarPair.{StarPair}
use Rattle.cal_schema.specs.declared.table.AdapterKind.{AdapterKind}
use Rattle.cal_schema.specs.declared.table.TableDef.{TableDef}
use Rattle.cal_schema.specs.declared.tile.TileInfo.{TileInfo}
use Rattle.cal_schema.specs.Fits.{Fits}
use Rattle.cal_rel.specs.Bag.{bag, width, set_width, rows_of_tile, leaf_bag, unary_bag, binary_bag}
use Rattle.cal_rel.specs.Holes.{filled}
use Rattle.cal_rel.specs.Info.{Info, set_at}
use Rattle.cal_rel.specs.Operators.{Row}
use Rattle.cal_rel.specs.Tiles.{table_rows}
use Rattle.cal_rel.specs.Tree.{Leaf, scan, tile_scan, star_scan, empty_of, Unary, filter_by, project_to, aggregate_by, Binary, join_on, Tree, leaf, unary, binary, hole}
use Rattle.cal_rel.specs.Typing.{pairs_of}
use Rattle.cal_rel.proofs.Totals.{Weighs, Weighs-from_SameBag, weighs-refl, weighs-trans}
use Rattle.cal_rel.proofs.TrueTypes.{type-width}
use Rattle.memo_model.specs.Sets.{Sets, seed_at, IsThere, Has}
use Rattle.memo_model.specs.Sound.{over, IsCoherent}
use Rattle.memo_model.proofs.TypeLemmas.{kinds-length}
use Rattle.plan_nodes.specs.declared.nodes.PlanNode.TheVariants.{MemFilter, MemProject, CsvProject}
use Rattle.plan_nodes.specs.PlanTrees.{PlanTree, plan_width}
use Rattle.phys_plan.specs.declared.ways.Want.TheVariants.{MemScanned, MemFiltered, CsvScanned}
use Rattle.phys_plan.specs.declared.ways.Ask.{Ask}
use Rattle.phys_plan.specs.declared.ways.Way.{Way}
use Rattle.phys_plan.specs.Alternatives.{asked_width}
use Rattle.phys_plan.specs.Realised.{Realised, not_asked, by_root, rooted}
use Rattle.phys_plan.specs.Spaces.{Space, HasWidths}
use Rattle.phys_plan.specs.Ways.{asks, way, is_tests, are_different, scan_node, scan_ways, tile_ways, leaf_ways, unary_ways, merge_ways, pair_ways, binary_ways, spells, sort_ways, converters, ways}
use Rattle.phys_plan.proofs.Bridge.{from-realised}
use Rattle.phys_plan.proofs.Members.{Every}
use Rattle.phys_plan.proofs.WidthLemmas.{plan-wide}
use Rattle.plan_meaning.specs.Bags.{instance_rows, node_bag, plan_bag}
use Rattle.plan_meaning.specs.Memos.{AreApart}
use Rattle.plan_meaning.proofs.Nodes.{node-same}
use Rattle.plan_meaning.proofs.Tiles.{tile_of-get}
use Rattle.plan_meaning.proofs.Ways.{every-where, ways-each}

pub there-width : (info : Info) (k : ℕ) (t : RelType) → set_at info.sets k ≡ Some t → set_width info k ≡ length t.columns
there-width info k t e = ap (λ o. unwrap_or (option_map (λ (t : RelType). length t.columns) o) 0) e

module _ (info : Info) (sets : Sets) (coherent : IsCoherent info sets) where
  abbrev pub typed_info : Info
  typed_info = over info sets.types

  pub member-width : (s : ℕ) (node : Tree) → Has sets.members s node → width typed_info node ≡ set_width typed_info s
  member-width s node has =
      let m = coherent.members s node has in
      sym (type-width typed_info node m.own m.typed) ∙ kinds-length m.own.columns m.there.found.columns m.kinds ∙ sym (there-width typed_info s m.there.found m.there.is)

  seed-width : (k : ℕ) → IsThere sets.types k → width (over info []) (seed_at sets.seeds k) ≡ set_width typed_info k
  seed-width k there = (coherent.seeds k there.found there.is).columns ∙ sym (there-width typed_info k there.found there.is)

  module _ (apart : AreApart info.tiles) (estimates tables : List ℕ) where
    abbrev pub space : Space
    space = record { members = sets.members; info = typed_info; estimates = estimates; tables = tables }

    pub widths : HasWidths space
    widths = record { instances = λ at tile e. tile_of-get info.tiles at tile apart e; columns = member-width }

    -- ---- rows

    module _ (db : Db) (fits : Fits db info.schema) (holes : ℕ → List Row) where
      -- what a set means
      abbrev pub rows_in : ℕ → List Row
      rows_in k = bag (over info []) db holes (seed_at sets.seeds k)

      abbrev pub rows_asked : Option Ask → List Row
      rows_asked None = []
      rows_asked (Some ask) = rows_in ask.set

      -- the way means what the set means, over what the sets mean that it asks
      record Means (set : ℕ) (w : Way) : Type 0 where
        same : Weighs (node_bag typed_info db w.node (asked_width space w.second) (rows_asked w.first) (rows_asked w.second)) (rows_in set)

      member-rows : (s : ℕ) (node : Tree) → Has sets.members s node → Weighs (bag (over info []) db holes (filled (seed_at sets.seeds) node)) (rows_in s)
      member-rows s node has =
          Weighs-from_SameBag (bag (over info []) db holes (filled (seed_at sets.seeds) node)) (rows_in s)
          ((coherent.members s node has).means.rows db holes fits (record { each = λ k t e. absurd (cc) }))

      scan-means : (set table : ℕ) (o : Option TableDef) → Weighs (table_rows db table) (rows_in set) → Every (Means set) (scan_ways table o)
      scan-means set table None h = tt
      scan-means set table (Some def) h = by def.adapter
        where
          by : (adapter : AdapterKind) → Every (Means set) (record { node = scan_node adapter table; first = None; second = None } ∷ [])
          by AdapterKind.Csv = (record { same = h }, tt)
          by AdapterKind.Mem = (record { same = h }, tt)

      tile-rows : (at : ℕ) (tile : TileInfo) → slice_get info.tiles at ≡ Some tile → instance_rows typed_info db tile.instance ≡ rows_of_tile (over info []) db tile.key
      tile-rows at tile e = ap (λ o. unwrap_or (option_map (λ (t : TileInfo). rows_of_tile (over info []) db t.key) o) []) (tile_of-get info.tiles at tile apart e)

      tile-means : (set at : ℕ) (o : Option TileInfo) → slice_get info.tiles at ≡ o
          → Weighs (unwrap_or (option_map (λ (tile : TileInfo). rows_of_tile (over info []) db tile.key) o) []) (rows_in set) → Every (Means set) (tile_ways o)
      tile-means set at None got h = tt
      tile-means set at (Some tile) got h = (record { same = subst (λ rows. Weighs rows (rows_in set)) (sym (tile-rows at tile got)) h }, tt)

      leaf-means : (set : ℕ) (l : Leaf) → Weighs (leaf_bag (over info []) db l) (rows_in set) → Every (Means set) (leaf_ways typed_info l)
      leaf-means set (scan table) h = scan-means set table (slice_get info.schema.tables table) h
      leaf-means set (tile_scan at) h = tile-means set at (slice_get info.tiles at) refl h
      leaf-means set (star_scan lattice) h = tt
      leaf-means set (empty_of types) h = (record { same = h }, tt)

      unary-means : (set : ℕ) (u : Unary) (k : ℕ) → Weighs (unary_bag u (rows_in k)) (rows_in set) → Every (Means set) (unary_ways u k)
      unary-means set (filter_by predicate) k h =
          let pushed : List Way = way (MemFilter predicate) (asks k MemScanned []) None ∷ [] in
          (record { same = h }, every-where (Means set) (is_tests predicate) pushed (λ is. (record { same = h }, tt)))
      unary-means set (project_to items) k h =
          let pushed : List Way = way (MemProject items) (asks k MemFiltered []) None ∷ way (CsvProject items) (asks k CsvScanned []) None ∷ [] in
          (record { same = h }, every-where (Means set) (are_different items) pushed (λ is. (record { same = h }, (record { same = h }, tt))))
      unary-means set (aggregate_by groups calls) k h = (record { same = h }, (record { same = h }, tt))

      abbrev join_bag : JoinKind → Expr → ℕ → ℕ → List Row
      join_bag kind on j k = binary_bag (join_on kind on) (set_width typed_info k) (rows_in j) (rows_in k)

      merge-means : (set : ℕ) (kind : JoinKind) (n : ℕ) (on : Expr) (j k : ℕ) → Weighs (join_bag kind on j k) (rows_in set) → Every (Means set) (merge_ways kind n on j k)
      merge-means set Inner n on j k h = (record { same = h }, tt)
      merge-means set Left n on j k h = tt

      pair-means : (set : ℕ) (pairs : List StarPair) (kind : JoinKind) (n : ℕ) (on : Expr) (j k : ℕ) → Weighs (join_bag kind on j k) (rows_in set)
          → Every (Means set) (pair_ways pairs kind n on j k)
      pair-means set [] kind n on j k h = tt
      pair-means set (pair ∷ pairs) kind n on j k h = (record { same = h }, merge-means set kind n on j k h)

      binary-means : (set : ℕ) (b : Binary) (n j k : ℕ) → Weighs (binary_bag b (set_width typed_info k) (rows_in j) (rows_in k)) (rows_in set) → Every (Means set) (binary_ways b n j k)
      binary-means set (join_on kind on) n j k h = (record { same = h }, pair-means set (pairs_of n on) kind n on j k h)

      right-width : (set : ℕ) (b : Binary) (j k : ℕ) → Has sets.members set (binary b (hole j) (hole k)) → width (over info []) (seed_at sets.seeds k) ≡ set_width typed_info k
      right-width set b j k has = seed-width k (coherent.members set (binary b (hole j) (hole k)) has).holes.1

      spelled-means : (set : ℕ) (node : Tree) → Has sets.members set node → Every (Means set) (spells typed_info node)
      spelled-means set (leaf l) has = leaf-means set l (member-rows set (leaf l) has)
      spelled-means set (unary u (hole k)) has = unary-means set u k (member-rows set (unary u (hole k)) has)
      spelled-means set (unary u (leaf l)) has = tt
      spelled-means set (unary u (unary v t)) has = tt
      spelled-means set (unary u (binary b s t)) has = tt
      spelled-means set (binary b (hole j) (hole k)) has =
          binary-means set b (set_width typed_info j) j k
          (subst (λ n. Weighs (binary_bag b n (rows_in j) (rows_in k)) (rows_in set)) (right-width set b j k has) (member-rows set (binary b (hole j) (hole k)) has))
      spelled-means set (binary b (hole j) (leaf l)) has = tt
      spelled-means set (binary b (hole j) (unary u t)) has = tt
      spelled-means set (binary b (hole j) (binary c s t)) has = tt
      spelled-means set (binary b (leaf l) t) has = tt
      spelled-means set (binary b (unary u s) t) has = tt
      spelled-means set (binary b (binary c r s) t) has = tt
      spelled-means set (hole k) has = tt

      sorted-means : (set : ℕ) (order : List KeyOrder) → Every (Means set) (sort_ways set order)
      sorted-means set [] = tt
      sorted-means set (key ∷ order) = (record { same = weighs-refl (rows_in set) }, tt)

      converted-means : (set : ℕ) (order : List KeyOrder) → Every (Means set) (converters set order)
      converted-means set order =
          let same = weighs-refl (rows_in set) in
          (record { same = same }, (record { same = same }, (record { same = same }, sorted-means set order)))

      way-means : (set : ℕ) (order : List KeyOrder) (k : ℕ) (w : Way) → slice_get (ways space set order) k ≡ Some w → Means set w
      way-means set order k w e = ways-each (Means set) space set order (converted-means set order) (spelled-means set) k w e

      -- ---- plans

      abbrev pub IsSame : Option Ask → PlanTree → Type 0
      IsSame o tree = Weighs (plan_bag typed_info db tree) (rows_asked o)

      pub asked-width : (o : Option Ask) (tree : PlanTree) → Realised space o tree → plan_width typed_info tree ≡ asked_width space o
      asked-width _ _ not_asked = refl
      asked-width _ _ (by_root q w a b root ordered x y) =
          plan-wide space q (rooted space q w a b) widths (from-realised space (Some q) (rooted space q w a b) (by_root q w a b root ordered x y))

      -- a plan means what its set means
      pub plan-same : (o : Option Ask) (tree : PlanTree) → Realised space o tree → IsSame o tree
      plan-same _ _ not_asked = weighs-refl []
      plan-same _ _ (by_root q w a b root ordered x y) =
          let n = plan_width typed_info b in
          let left = plan_bag typed_info db a in
          let right = plan_bag typed_info db b in
          let means = way-means q.set q.order root.at w root.among in
          let asked : Weighs (node_bag typed_info db w.node n (rows_asked w.first) (rows_asked w.second)) (rows_in q.set) =
          subst (λ n. Weighs (node_bag typed_info db w.node n (rows_asked w.first) (rows_asked w.second)) (rows_in q.set)) (sym (asked-width w.second b y)) means.same in
          weighs-trans (node_bag typed_info db w.node n left right) (node_bag typed_info db w.node n (rows_asked w.first) (rows_asked w.second)) (rows_in q.set)
          (node-same typed_info db w.node n left (rows_asked w.first) right (rows_asked w.second) (plan-same w.first a x) (plan-same w.second b y)) asked
