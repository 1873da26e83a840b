-- A plan of a set of a sound memo is well formed.
use Rattle.std.proofs.Common.{◌≡◌, ℕ, zero, suc, ◌+◌, ◌<◌, All, Bool, true, false, ◌||◌, List, [], ◌∷◌, ◌++◌, length, Option, Some, None, slice_get, refl, sym, ◌∙◌, ap, subst, arith}
use Rattle.std.specs.Prelude.{option_map, unwrap_or, IsTrue, ⊤}
use Rattle.std.specs.Option.{option_and_then}
use Rattle.std.proofs.lemmas.List.Elements.{All-nil}
use Rattle.std.proofs.lemmas.Option.{cond_some}
use Rattle.cal_value.specs.declared.order.KeyOrder.{KeyOrder}
use Rattle.cal_value.specs.Types.{HasTypes}
use Rattle.cal_expr.specs.declared.expr.Expr.{Expr}
use Rattle.cal_schema.specs.declared.agg_call.AggCall.{AggCall}
use Rattle.cal_schema.specs.declared.database.Db.{Db}
use Rattle.cal_schema.specs.declared.join_kind.JoinKind.{JoinKind}
use Rattle.cal_schema.specs.declared.join_kind.JoinKind.TheVariants.{Inner, Left}
use Rattle.cal_schema.specs.declared.rel_type.RelType.{RelType}
use Rattle.cal_schema.specs.declared.star_pair.StarPair.{StarPair}
use Rattle.cal_schema.specs.declared.table.AdapterKind.{AdapterKind}
use Rattle.cal_schema.specs.declared.table.TableDef.{TableDef}
use Rattle.cal_schema.specs.declared.tile.TileInfo.{TileInfo}
use Rattle.cal_schema.specs.Fits.{AreFilledBy, Fits}
use Rattle.cal_schema.specs.RelType.{IsTrueOf}
use Rattle.cal_rel.specs.Bag.{bag, width, set_width, rows_of_tile, unary_bag, binary_bag}
use Rattle.cal_rel.specs.Info.{Info, set_at}
use Rattle.cal_rel.specs.Meaning.{AreTrueOf}
use Rattle.cal_rel.specs.Operators.{Row}
use Rattle.cal_rel.specs.Tree.{Leaf, scan, tile_scan, star_scan, empty_of, Unary, filter_by, project_to, aggregate_by, Binary, join_on, Tree, leaf, unary, binary, hole}
use Rattle.cal_rel.specs.Typing.{of_both, types_by, is_condition, of_columns, group_bound, group_columns, call_type, aggregate_type, unary_type, binary_type, join_type, join_bound, join_columns, pairs_of, tile_type, type_of}
use Rattle.cal_rel.proofs.MoreLaws.{true-same}
use Rattle.cal_rel.proofs.RowLemmas.{of_both-some}
use Rattle.cal_rel.proofs.SameBags.{same-unary, same-binary}
use Rattle.cal_rel.proofs.Totals.{Weighs, SameBag-from_Weighs, weighs-sym}
use Rattle.cal_rel.proofs.TrueTypes.{option_map-some, type-true}
use Rattle.memo_model.specs.Sets.{Sets, seed_at, IsThere, Has}
use Rattle.memo_model.specs.Sound.{over, IsMember, IsCoherent}
use Rattle.plan_nodes.specs.declared.nodes.PlanNode.{PlanNode}
use Rattle.plan_nodes.specs.declared.nodes.PlanNode.TheVariants.{MemScan, CsvScan, TileRead, MemFilter, MemProject, CsvProject, ToEnumerable, Filter, Project, NestedLoopJoin, HashJoin, MergeJoin, HashAggregate, SortedAggregate, EmptyRows, Sort}
use Rattle.plan_nodes.specs.Orders.{is_prefix, tile_of, ascending_by, left_order, right_order}
use Rattle.plan_nodes.specs.PlanTrees.{PlanTree, nothing, plan_width, order_of}
use Rattle.phys_plan.specs.declared.ways.Want.{Want}
use Rattle.phys_plan.specs.declared.ways.Want.TheVariants.{Rows, MemScanned, MemFiltered, MemKept, CsvScanned, CsvKept, Tiled}
use Rattle.phys_plan.specs.declared.ways.Ask.{Ask}
use Rattle.phys_plan.specs.declared.ways.Way.{Way}
use Rattle.phys_plan.specs.Realised.{Realised, not_asked, by_root, rooted}
use Rattle.phys_plan.specs.Spaces.{Space, table_len, tile_len, part_len}
use Rattle.phys_plan.specs.Ways.{asks, way, fits, is_tests, are_different, scan_node, scan_ways, tile_ways, leaf_ways, unary_ways, merge_ways, pair_ways, binary_ways, spells, sort_ways, converters, ways}
use Rattle.phys_plan.proofs.Members.{Every}
use Rattle.plan_meaning.specs.Bags.{instance_rows, node_bag, plan_bag}
use Rattle.plan_meaning.specs.Memos.{AreApart}
use Rattle.plan_meaning.specs.WellFormed.{root_fits, Gives, IsKept, ReadsTable, HasPair, HasKeysWithin, unkeyed, node_type, IsTypeOfRows, IsTyped, IsWellFormedNode, IsWellFormed, ArePartsOf}
use Rattle.plan_meaning.proofs.Means.{there-width, asked-width, plan-same}
use Rattle.plan_meaning.proofs.Nodes.{plan_width-over, order_of-over, plan_bag-over}
use Rattle.plan_meaning.proofs.Pairs.{IsPairWithin, pairs-within, no-keys, left-within, right-within, groups-within}
use Rattle.plan_meaning.proofs.Tiles.{tile_of-get}
use Rattle.plan_meaning.proofs.Ways.{every-where, ways-each}

or-left : (a b : Bool) → IsTrue a → IsTrue (a || b)
or-left true b h = refl
or-left false b h = absurd (cc)

or-right : (a b : Bool) → IsTrue b → IsTrue (a || b)
or-right true b h = refl
or-right false b h = h

held-table : (tables : List TableDef) (lists : List (List Row)) (n : ℕ) (table : TableDef) → AreFilledBy tables lists → slice_get tables n ≡ Some table → n < length lists
held-table [] lists n table h e = absurd (cc)
held-table (t ∷ tables) [] n table h e = absurd h
held-table (t ∷ tables) (rows ∷ lists) zero table h e = omega arith
held-table (t ∷ tables) (rows ∷ lists) (suc n) table h e = let more = held-table tables lists n table h.1 e in omega arith

-- a pair for a hash join or a merge join
some-pair : (width n : ℕ) (on : Expr) (pair : StarPair) (pairs : List StarPair) → width ≡ n → pairs_of n on ≡ pair ∷ pairs → HasPair width on
some-pair width n on pair pairs same e = record { some = subst (λ w. 0 < length (pairs_of w on)) (sym same) (subst (λ ps. 0 < length ps) (sym e) (omega arith)) }

no_type : RelType
no_type = record { columns = []; bound = 0 }

no_type-true : IsTrueOf no_type []
unfolding no_type
no_type-true = record { typed = All-nil (λ row. HasTypes row []); few = λ l. omega arith }

no_type-columns : length no_type.columns ≡ 0
unfolding no_type
no_type-columns = refl

-- of an input that isn't there
nothing-type : (info : Info) (db : Db) (tree : PlanTree) → tree ≡ nothing → IsTypeOfRows no_type (plan_width info tree) (plan_bag info db tree)
nothing-type info db tree e = subst (λ t. IsTypeOfRows no_type (plan_width info t) (plan_bag info db t)) (sym e) (record { true = no_type-true; columns = no_type-columns })

module _ (info : Info) (sets : Sets) (coherent : IsCoherent info sets) (apart : AreApart info.tiles) (estimates tables : List ℕ) (db : Db) (fit : Fits db info.schema) where
  abbrev pub typed_info : Info
  typed_info = over info sets.types

  abbrev pub space : Space
  space = record { members = sets.members; info = typed_info; estimates = estimates; tables = tables }

  -- what a set means
  abbrev pub rows_in : ℕ → List Row
  rows_in k = bag (over info []) db (λ k. []) (seed_at sets.seeds k)

  -- what is known of a plan that realises what is asked
  pub record Input (q : Ask) (tree : PlanTree) : Type 0 where
    pub there : IsThere sets.types q.set
    pub columns : plan_width info tree ≡ set_width typed_info q.set
    pub same : Weighs (plan_bag info db tree) (rows_in q.set)
    pub given : Gives info q.want q.order tree

  abbrev pub IsInput : Option Ask → PlanTree → Type 0
  IsInput None tree = tree ≡ nothing
  IsInput (Some q) tree = Input q tree

  abbrev pub KeysWithin : Option Ask → Type 0
  KeysWithin None = ⊤
  KeysWithin (Some q) = HasKeysWithin (set_width typed_info q.set) q.order

  -- ---- types

  all-true : AreTrueOf sets.types rows_in
  all-true = record { each = λ k t e. (coherent.seeds k t e).true db (λ k. []) fit }

  input-type : (q : Ask) (tree : PlanTree) (i : Input q tree) → IsTypeOfRows i.there.found (plan_width info tree) (plan_bag info db tree)
  input-type q tree i = record {
    true = true-same i.there.found (rows_in q.set) (plan_bag info db tree) (SameBag-from_Weighs (rows_in q.set) (plan_bag info db tree) (weighs-sym (plan_bag info db tree) (rows_in q.set) i.same))
        (all-true.each q.set i.there.found i.there.is);
    columns = sym (i.columns ∙ there-width typed_info q.set i.there.found i.there.is);
  }

  member-true : (s : ℕ) (node : Tree) (has : Has sets.members s node) → IsTrueOf (coherent.members s node has).own (bag typed_info db rows_in node)
  member-true s node has = let m = coherent.members s node has in type-true typed_info db rows_in node m.own fit all-true m.typed

  -- a node over one input
  record OverOne (u : Unary) (a : PlanTree) : Type 0 where
    left : RelType
    own : RelType
    left_is : IsTypeOfRows left (plan_width info a) (plan_bag info db a)
    own_is : IsTrueOf own (unary_bag u (plan_bag info db a))
    typed : unary_type u left ≡ Some own

  over-one : (s : ℕ) (u : Unary) (q : Ask) → Has sets.members s (unary u (hole q.set)) → (a : PlanTree) → Input q a → OverOne u a
  over-one s u q has a i =
      let m = coherent.members s (unary u (hole q.set)) has in
      record {
        left = i.there.found;
        own = m.own;
        left_is = input-type q a i;
        own_is = true-same m.own (unary_bag u (rows_in q.set)) (unary_bag u (plan_bag info db a))
            (SameBag-from_Weighs (unary_bag u (rows_in q.set)) (unary_bag u (plan_bag info db a))
            (weighs-sym (unary_bag u (plan_bag info db a)) (unary_bag u (rows_in q.set)) (same-unary u (plan_bag info db a) (rows_in q.set) i.same)))
            (member-true s (unary u (hole q.set)) has);
        typed = subst (λ o. option_and_then (unary_type u) o ≡ Some m.own) i.there.is m.typed;
      }

  -- a join over two
  record OverTwo (kind : JoinKind) (on : Expr) (a b : PlanTree) : Type 0 where
    left : RelType
    right : RelType
    own : RelType
    left_is : IsTypeOfRows left (plan_width info a) (plan_bag info db a)
    right_is : IsTypeOfRows right (plan_width info b) (plan_bag info db b)
    own_is : IsTrueOf own (binary_bag (join_on kind on) (plan_width info b) (plan_bag info db a) (plan_bag info db b))
    typed : join_type kind on unkeyed left right ≡ Some own

  join-typed : (kind : JoinKind) (on : Expr) (j k : ℕ) (left right own : RelType) → set_at sets.types j ≡ Some left → set_at sets.types k ≡ Some right
      → type_of typed_info (binary (join_on kind on) (hole j) (hole k)) ≡ Some own → join_type kind on unkeyed left right ≡ Some own
  join-typed kind on j k left right own e f typed =
      subst (λ o. of_both (binary_type typed_info (join_on kind on) (hole j) (hole k)) (Some left) o ≡ Some own) f
      (subst (λ o. of_both (binary_type typed_info (join_on kind on) (hole j) (hole k)) o (set_at sets.types k) ≡ Some own) e typed)

  over-two : (s : ℕ) (kind : JoinKind) (on : Expr) (p q : Ask) → Has sets.members s (binary (join_on kind on) (hole p.set) (hole q.set)) → (a b : PlanTree) → Input p a → Input q b → OverTwo kind on a b
  over-two s kind on p q has a b i j =
      let node : Tree = binary (join_on kind on) (hole p.set) (hole q.set) in
      let m = coherent.members s node has in
      let old = binary_bag (join_on kind on) (set_width typed_info q.set) (rows_in p.set) (rows_in q.set) in
      let new = binary_bag (join_on kind on) (set_width typed_info q.set) (plan_bag info db a) (plan_bag info db b) in
      let same : Weighs new old = same-binary (join_on kind on) (set_width typed_info q.set) (plan_bag info db a) (rows_in p.set) (plan_bag info db b) (rows_in q.set) i.same j.same in
      let own : IsTrueOf m.own new = true-same m.own old new (SameBag-from_Weighs old new (weighs-sym new old same)) (member-true s node has) in
      record {
        left = i.there.found;
        right = j.there.found;
        own = m.own;
        left_is = input-type p a i;
        right_is = input-type q b j;
        own_is = subst (λ n. IsTrueOf m.own (binary_bag (join_on kind on) n (plan_bag info db a) (plan_bag info db b))) (sym j.columns) own;
        typed = join-typed kind on p.set q.set i.there.found j.there.found m.own i.there.is j.there.is m.typed;
      }

  one-typed : (node : PlanNode) (u : Unary) (a b : PlanTree) (f : OverOne u a) → b ≡ nothing
      → IsTrueOf f.own (node_bag info db node (plan_width info b) (plan_bag info db a) (plan_bag info db b)) → node_type info node f.left no_type ≡ Some f.own → IsTyped info db node a b
  one-typed node u a b f e own typed =
      record { left = f.left; right = no_type; own = f.own; left_is = f.left_is; right_is = nothing-type info db b e; own_is = own; typed = typed }

  two-typed : (node : PlanNode) (kind : JoinKind) (on : Expr) (a b : PlanTree) (f : OverTwo kind on a b)
      → IsTrueOf f.own (node_bag info db node (plan_width info b) (plan_bag info db a) (plan_bag info db b)) → node_type info node f.left f.right ≡ Some f.own → IsTyped info db node a b
  two-typed node kind on a b f own typed =
      record { left = f.left; right = f.right; own = f.own; left_is = f.left_is; right_is = f.right_is; own_is = own; typed = typed }

  leaf-typed : (node : PlanNode) (a b : PlanTree) (own : RelType) → a ≡ nothing → b ≡ nothing
      → IsTrueOf own (node_bag info db node (plan_width info b) (plan_bag info db a) (plan_bag info db b)) → node_type info node no_type no_type ≡ Some own → IsTyped info db node a b
  leaf-typed node a b own e f own_is typed =
      record { left = no_type; right = no_type; own = own; left_is = nothing-type info db a e; right_is = nothing-type info db b f; own_is = own_is; typed = typed }

  same-typed : (node : PlanNode) (q : Ask) (a b : PlanTree) (i : Input q a) → b ≡ nothing
      → IsTrueOf i.there.found (node_bag info db node (plan_width info b) (plan_bag info db a) (plan_bag info db b)) → node_type info node i.there.found no_type ≡ Some i.there.found → IsTyped info db node a b
  same-typed node q a b i e own typed =
      record { left = i.there.found; right = no_type; own = i.there.found; left_is = input-type q a i; right_is = nothing-type info db b e; own_is = own; typed = typed }

  -- ---- orders

  grouped-keys : (s k : ℕ) (groups : List ℕ) (calls : List AggCall) → Has sets.members s (unary (aggregate_by groups calls) (hole k)) → HasKeysWithin (set_width typed_info k) (ascending_by groups)
  grouped-keys s k groups calls has =
      let m = coherent.members s (unary (aggregate_by groups calls) (hole k)) has in
      let t = m.holes.found in
      let e : aggregate_type groups calls t ≡ Some m.own = subst (λ o. option_and_then (unary_type (aggregate_by groups calls)) o ≡ Some m.own) m.holes.is m.typed in
      let c = option_map-some (of_columns (group_bound groups t.bound)) (group_columns groups calls t) m.own e in
      let b = of_both-some (λ keys values. Some (keys ++ values)) (types_by (slice_get t.columns) groups) (types_by (call_type t.columns t.bound) calls) c.from c.found in
      subst (λ n. HasKeysWithin n (ascending_by groups)) (sym (there-width typed_info k t m.holes.is)) (groups-within t.columns groups b.first b.first_is)

  join-pairs : (s : ℕ) (kind : JoinKind) (on : Expr) (j k : ℕ) → Has sets.members s (binary (join_on kind on) (hole j) (hole k))
      → All (IsPairWithin (set_width typed_info j) (set_width typed_info j + set_width typed_info k)) (pairs_of (set_width typed_info j) on)
  join-pairs s kind on j k has =
      let m = coherent.members s (binary (join_on kind on) (hole j) (hole k)) has in
      let left = m.holes.0.found in
      let right = m.holes.1.found in
      let typed = join-typed kind on j k left right m.own m.holes.0.is m.holes.1.is m.typed in
      let made : RelType = of_columns (join_bound kind unkeyed left.bound right.bound) (join_columns kind left.columns right.columns) in
      let condition = (cond_some (is_condition on (left.columns ++ right.columns)) made m.own typed).0 in
      subst (λ n. All (IsPairWithin (set_width typed_info j) (set_width typed_info j + n)) (pairs_of (set_width typed_info j) on)) (sym (there-width typed_info k right m.holes.1.is))
      (subst (λ n. All (IsPairWithin n (n + length right.columns)) (pairs_of n on)) (sym (there-width typed_info j left m.holes.0.is)) (pairs-within on left.columns right.columns condition))

  module _ (parts : ArePartsOf space db) where
    -- over inputs that realise what the way asks its node is well formed, and the set is there
    record Formed (set : ℕ) (w : Way) : Type 0 where
      first : KeysWithin w.first
      second : KeysWithin w.second
      there : (a b : PlanTree) → IsInput w.first a → IsInput w.second b → IsThere sets.types set
      node : (a b : PlanTree) → IsInput w.first a → IsInput w.second b → IsWellFormedNode info db w.node (part_len space w.node) a b

    -- ---- leaves

    module _ (set table : ℕ) (has : Has sets.members set (leaf (scan table))) (def : TableDef) (got : slice_get info.schema.tables table ≡ Some def) where
      abbrev scanned : IsMember info sets.seeds sets.types set (leaf (scan table))
      scanned = coherent.members set (leaf (scan table)) has

      table-read : (adapter : AdapterKind) → def.adapter ≡ adapter → ReadsTable info db adapter table (table_len space table)
      table-read adapter is = record { def = def; there = got; kept = is; held = held-table info.schema.tables db.tables table def fit got; rows = parts.tables table }

      table-formed : (adapter : AdapterKind) → def.adapter ≡ adapter → Every (Formed set) (way (scan_node adapter table) None None ∷ [])
      table-formed AdapterKind.Mem is =
          let made : Formed set (way (MemScan table) None None) = record {
            first = tt;
            second = tt;
            there = λ a b i j. scanned.there;
            node = λ a b i j. record {
              inputs = record { first = i; second = j };
              reads = table-read AdapterKind.Mem is;
              form = tt;
              types = leaf-typed (MemScan table) a b scanned.own i j (member-true set (leaf (scan table)) has) scanned.typed;
            };
          } in
          (made, tt)
      table-formed AdapterKind.Csv is =
          let made : Formed set (way (CsvScan table) None None) = record {
            first = tt;
            second = tt;
            there = λ a b i j. scanned.there;
            node = λ a b i j. record {
              inputs = record { first = i; second = j };
              reads = table-read AdapterKind.Csv is;
              form = tt;
              types = leaf-typed (CsvScan table) a b scanned.own i j (member-true set (leaf (scan table)) has) scanned.typed;
            };
          } in
          (made, tt)

    scan-formed : (set table : ℕ) → Has sets.members set (leaf (scan table)) → (o : Option TableDef) → slice_get info.schema.tables table ≡ o → Every (Formed set) (scan_ways table o)
    scan-formed set table has None e = tt
    scan-formed set table has (Some def) e = table-formed set table has def e def.adapter refl

    tile-formed : (set at : ℕ) → Has sets.members set (leaf (tile_scan at)) → (o : Option TileInfo) → slice_get info.tiles at ≡ o → Every (Formed set) (tile_ways o)
    tile-formed set at has None e = tt
    tile-formed set at has (Some tile) e =
        let m = coherent.members set (leaf (tile_scan at)) has in
        let there = tile_of-get info.tiles at tile apart e in
        let same : slice_get info.tiles at ≡ tile_of info.tiles tile.instance = e ∙ sym there in
        let own : IsTrueOf m.own (instance_rows info db tile.instance) =
        subst (λ o. IsTrueOf m.own (unwrap_or (option_map (λ (tile : TileInfo). rows_of_tile info db tile.key) o) [])) same (member-true set (leaf (tile_scan at)) has) in
        let typed : node_type info (TileRead tile.instance) no_type no_type ≡ Some m.own =
        subst (λ o. option_and_then (λ (tile : TileInfo). tile_type info tile.key) o ≡ Some m.own) same m.typed in
        let len : tile_len space tile.instance ≡ length (rows_of_tile info db tile.key) = ap (λ o. unwrap_or (option_map (λ (tile : TileInfo). tile.rows) o) 0) there ∙ parts.tiles at tile e in
        let made : Formed set (way (TileRead tile.instance) None None) = record {
          first = tt;
          second = tt;
          there = λ a b i j. m.there;
          node = λ a b i j. record {
            inputs = record { first = i; second = j };
            reads = record { tile = tile; there = there; rows = len };
            form = tt;
            types = leaf-typed (TileRead tile.instance) a b m.own i j own typed;
          };
        } in
        (made, tt)

    leaf-formed : (set : ℕ) (l : Leaf) → Has sets.members set (leaf l) → Every (Formed set) (leaf_ways typed_info l)
    leaf-formed set (scan table) has = scan-formed set table has (slice_get info.schema.tables table) refl
    leaf-formed set (tile_scan at) has = tile-formed set at has (slice_get info.tiles at) refl
    leaf-formed set (star_scan lattice) has = tt
    leaf-formed set (empty_of types) has =
        let m = coherent.members set (leaf (empty_of types)) has in
        let made : Formed set (way (EmptyRows types) None None) = record {
          first = tt;
          second = tt;
          there = λ a b i j. m.there;
          node = λ a b i j. record {
            inputs = record { first = i; second = j };
            reads = refl;
            form = tt;
            types = leaf-typed (EmptyRows types) a b m.own i j (member-true set (leaf (empty_of types)) has) m.typed;
          };
        } in
        (made, tt)

    -- ---- one input

    abbrev ask : ℕ → Want → List KeyOrder → Ask
    ask k want order = record { set = k; want = want; order = order }

    filter-formed : (set : ℕ) (predicate : Expr) (k : ℕ) → Has sets.members set (unary (filter_by predicate) (hole k)) → Every (Formed set) (unary_ways (filter_by predicate) k)
    filter-formed set predicate k has =
        let u : Unary = filter_by predicate in
        let m = coherent.members set (unary u (hole k)) has in
        let plain : Formed set (way (Filter predicate) (asks k Rows []) None) = record {
          first = no-keys (set_width typed_info k);
          second = tt;
          there = λ a b i j. m.there;
          node = λ a b i j.
              let f = over-one set u (ask k Rows []) has a i in
              record { inputs = record { first = i.given; second = j }; reads = refl; form = tt; types = one-typed (Filter predicate) u a b f j f.own_is f.typed };
        } in
        let pushed : is_tests predicate ≡ true → Formed set (way (MemFilter predicate) (asks k MemScanned []) None) = λ tests. record {
          first = no-keys (set_width typed_info k);
          second = tt;
          there = λ a b i j. m.there;
          node = λ a b i j.
              let f = over-one set u (ask k MemScanned []) has a i in
              record { inputs = record { first = i.given; second = j }; reads = refl; form = tests; types = one-typed (MemFilter predicate) u a b f j f.own_is f.typed };
        } in
        (plain, every-where (Formed set) (is_tests predicate) (way (MemFilter predicate) (asks k MemScanned []) None ∷ []) (λ tests. (pushed tests, tt)))

    project-formed : (set : ℕ) (items : List Expr) (k : ℕ) → Has sets.members set (unary (project_to items) (hole k)) → Every (Formed set) (unary_ways (project_to items) k)
    project-formed set items k has =
        let u : Unary = project_to items in
        let m = coherent.members set (unary u (hole k)) has in
        let plain : Formed set (way (Project items) (asks k Rows []) None) = record {
          first = no-keys (set_width typed_info k);
          second = tt;
          there = λ a b i j. m.there;
          node = λ a b i j.
              let f = over-one set u (ask k Rows []) has a i in
              record { inputs = record { first = i.given; second = j }; reads = refl; form = tt; types = one-typed (Project items) u a b f j f.own_is f.typed };
        } in
        let mem : are_different items ≡ true → Formed set (way (MemProject items) (asks k MemFiltered []) None) = λ different. record {
          first = no-keys (set_width typed_info k);
          second = tt;
          there = λ a b i j. m.there;
          node = λ a b i j.
              let f = over-one set u (ask k MemFiltered []) has a i in
              record { inputs = record { first = i.given; second = j }; reads = refl; form = different; types = one-typed (MemProject items) u a b f j f.own_is f.typed };
        } in
        let csv : are_different items ≡ true → Formed set (way (CsvProject items) (asks k CsvScanned []) None) = λ different. record {
          first = no-keys (set_width typed_info k);
          second = tt;
          there = λ a b i j. m.there;
          node = λ a b i j.
              let f = over-one set u (ask k CsvScanned []) has a i in
              record { inputs = record { first = i.given; second = j }; reads = refl; form = different; types = one-typed (CsvProject items) u a b f j f.own_is f.typed };
        } in (
          plain,
          every-where (Formed set) (are_different items) (way (MemProject items) (asks k MemFiltered []) None ∷ way (CsvProject items) (asks k CsvScanned []) None ∷ [])
              (λ different. (mem different, (csv different, tt))),
        )

    aggregate-formed : (set : ℕ) (groups : List ℕ) (calls : List AggCall) (k : ℕ) → Has sets.members set (unary (aggregate_by groups calls) (hole k)) → Every (Formed set) (unary_ways (aggregate_by groups calls) k)
    aggregate-formed set groups calls k has =
        let u : Unary = aggregate_by groups calls in
        let m = coherent.members set (unary u (hole k)) has in
        let hash : Formed set (way (HashAggregate groups calls) (asks k Rows []) None) = record {
          first = no-keys (set_width typed_info k);
          second = tt;
          there = λ a b i j. m.there;
          node = λ a b i j.
              let f = over-one set u (ask k Rows []) has a i in
              record { inputs = record { first = i.given; second = j }; reads = refl; form = tt; types = one-typed (HashAggregate groups calls) u a b f j f.own_is f.typed };
        } in
        let sorted : Formed set (way (SortedAggregate groups calls) (asks k Rows (ascending_by groups)) None) = record {
          first = grouped-keys set k groups calls has;
          second = tt;
          there = λ a b i j. m.there;
          node = λ a b i j.
              let f = over-one set u (ask k Rows (ascending_by groups)) has a i in
              record { inputs = record { first = i.given; second = j }; reads = refl; form = tt; types = one-typed (SortedAggregate groups calls) u a b f j f.own_is f.typed };
        } in
        (hash, (sorted, tt))

    unary-formed : (set : ℕ) (u : Unary) (k : ℕ) → Has sets.members set (unary u (hole k)) → Every (Formed set) (unary_ways u k)
    unary-formed set (filter_by predicate) k has = filter-formed set predicate k has
    unary-formed set (project_to items) k has = project-formed set items k has
    unary-formed set (aggregate_by groups calls) k has = aggregate-formed set groups calls k has

    -- ---- joins

    merge-formed : (set : ℕ) (kind : JoinKind) (on : Expr) (j k : ℕ) (pair : StarPair) (pairs : List StarPair) → Has sets.members set (binary (join_on kind on) (hole j) (hole k))
        → pairs_of (set_width typed_info j) on ≡ pair ∷ pairs → Every (Formed set) (merge_ways kind (set_width typed_info j) on j k)
    merge-formed set Left on j k pair pairs has e = tt
    merge-formed set Inner on j k pair pairs has e =
        let n = set_width typed_info j in
        let m = coherent.members set (binary (join_on Inner on) (hole j) (hole k)) has in
        let within = join-pairs set Inner on j k has in
        let made : Formed set (way (MergeJoin on) (asks j Rows (left_order n on)) (asks k Rows (right_order n on))) = record {
          first = left-within n (n + set_width typed_info k) on within;
          second = right-within n (set_width typed_info k) on within;
          there = λ a b x y. m.there;
          node = λ a b x y.
              let f = over-two set Inner on (ask j Rows (left_order n on)) (ask k Rows (right_order n on)) has a b x y in
              record {
                inputs = record {
                  first = subst (λ n. Gives info Rows (left_order n on) a) (sym x.columns) x.given;
                  second = subst (λ n. Gives info Rows (right_order n on) b) (sym x.columns) y.given;
                };
                reads = refl;
                form = some-pair (plan_width info a) n on pair pairs x.columns e;
                types = two-typed (MergeJoin on) Inner on a b f f.own_is f.typed;
              };
        } in
        (made, tt)

    pair-formed : (set : ℕ) (kind : JoinKind) (on : Expr) (j k : ℕ) → Has sets.members set (binary (join_on kind on) (hole j) (hole k)) → (pairs : List StarPair)
        → pairs_of (set_width typed_info j) on ≡ pairs → Every (Formed set) (pair_ways pairs kind (set_width typed_info j) on j k)
    pair-formed set kind on j k has [] e = tt
    pair-formed set kind on j k has (pair ∷ pairs) e =
        let n = set_width typed_info j in
        let m = coherent.members set (binary (join_on kind on) (hole j) (hole k)) has in
        let made : Formed set (way (HashJoin kind on) (asks j Rows []) (asks k Rows [])) = record {
          first = no-keys n;
          second = no-keys (set_width typed_info k);
          there = λ a b x y. m.there;
          node = λ a b x y.
              let f = over-two set kind on (ask j Rows []) (ask k Rows []) has a b x y in
              record {
                inputs = record { first = x.given; second = y.given };
                reads = refl;
                form = some-pair (plan_width info a) n on pair pairs x.columns e;
                types = two-typed (HashJoin kind on) kind on a b f f.own_is f.typed;
              };
        } in
        (made, merge-formed set kind on j k pair pairs has e)

    binary-formed : (set : ℕ) (n : Binary) (j k : ℕ) → Has sets.members set (binary n (hole j) (hole k)) → Every (Formed set) (binary_ways n (set_width typed_info j) j k)
    binary-formed set (join_on kind on) j k has =
        let m = coherent.members set (binary (join_on kind on) (hole j) (hole k)) has in
        let made : Formed set (way (NestedLoopJoin kind on) (asks j Rows []) (asks k Rows [])) = record {
          first = no-keys (set_width typed_info j);
          second = no-keys (set_width typed_info k);
          there = λ a b x y. m.there;
          node = λ a b x y.
              let f = over-two set kind on (ask j Rows []) (ask k Rows []) has a b x y in
              record { inputs = record { first = x.given; second = y.given }; reads = refl; form = tt; types = two-typed (NestedLoopJoin kind on) kind on a b f f.own_is f.typed };
        } in
        (made, pair-formed set kind on j k has (pairs_of (set_width typed_info j) on) refl)

    -- ---- all ways

    spelled-formed : (set : ℕ) (node : Tree) → Has sets.members set node → Every (Formed set) (spells typed_info node)
    spelled-formed set (leaf l) has = leaf-formed set l has
    spelled-formed set (unary u (hole k)) has = unary-formed set u k has
    spelled-formed set (unary u (leaf l)) has = tt
    spelled-formed set (unary u (unary v t)) has = tt
    spelled-formed set (unary u (binary b s t)) has = tt
    spelled-formed set (binary b (hole j) (hole k)) has = binary-formed set b j k has
    spelled-formed set (binary b (hole j) (leaf l)) has = tt
    spelled-formed set (binary b (hole j) (unary u t)) has = tt
    spelled-formed set (binary b (hole j) (binary c s t)) has = tt
    spelled-formed set (binary b (leaf l) t) has = tt
    spelled-formed set (binary b (unary u s) t) has = tt
    spelled-formed set (binary b (binary c r s) t) has = tt
    spelled-formed set (hole k) has = tt

    kept-formed : (set : ℕ) (want : Want) → ((a : PlanTree) → IsTrue (root_fits want a) → IsKept a) → Formed set (way ToEnumerable (asks set want []) None)
    kept-formed set want kept = record {
      first = no-keys (set_width typed_info set);
      second = tt;
      there = λ a b i j. i.there;
      node = λ a b i j.
          record {
            inputs = record { first = kept a i.given.kind; second = j };
            reads = refl;
            form = tt;
            types = same-typed ToEnumerable (ask set want []) a b i j (input-type (ask set want []) a i).true refl;
          };
    }

    sorted-formed : (set : ℕ) (order : List KeyOrder) → HasKeysWithin (set_width typed_info set) order → Every (Formed set) (sort_ways set order)
    sorted-formed set [] within = tt
    sorted-formed set (key ∷ order) within =
        let made : Formed set (way (Sort (key ∷ order)) (asks set Rows []) None) = record {
          first = no-keys (set_width typed_info set);
          second = tt;
          there = λ a b i j. i.there;
          node = λ a b i j.
              record {
                inputs = record { first = i.given; second = j };
                reads = refl;
                form = subst (λ n. HasKeysWithin n (key ∷ order)) (sym i.columns) within;
                types = same-typed (Sort (key ∷ order)) (ask set Rows []) a b i j (input-type (ask set Rows []) a i).true refl;
              };
        } in
        (made, tt)

    converted-formed : (set : ℕ) (order : List KeyOrder) → HasKeysWithin (set_width typed_info set) order → Every (Formed set) (converters set order)
    converted-formed set order within =
        let mem = kept-formed set MemKept (λ a h. record { kind = or-left (root_fits MemKept a) (root_fits CsvKept a || root_fits Tiled a) h }) in
        let csv = kept-formed set CsvKept (λ a h. record { kind = or-right (root_fits MemKept a) (root_fits CsvKept a || root_fits Tiled a) (or-left (root_fits CsvKept a) (root_fits Tiled a) h) }) in
        let tile = kept-formed set Tiled (λ a h. record { kind = or-right (root_fits MemKept a) (root_fits CsvKept a || root_fits Tiled a) (or-right (root_fits CsvKept a) (root_fits Tiled a) h) }) in
        (mem, (csv, (tile, sorted-formed set order within)))

    way-formed : (set : ℕ) (order : List KeyOrder) → HasKeysWithin (set_width typed_info set) order → (k : ℕ) (w : Way) → slice_get (ways space set order) k ≡ Some w → Formed set w
    way-formed set order within k w e = ways-each (Formed set) space set order (converted-formed set order within) (spelled-formed set) k w e

    -- ---- plans

    pub record WellFormed (o : Option Ask) (tree : PlanTree) : Type 0 where
      pub input : IsInput o tree
      pub well : IsWellFormed info db tree

    root-input : (q : Ask) (tree : PlanTree) → Realised space (Some q) tree → IsThere sets.types q.set → IsTrue (root_fits q.want tree) → IsTrue (is_prefix q.order (order_of typed_info tree)) → Input q tree
    root-input q tree realised there fits ordered =
        record {
          there = there;
          columns = sym (plan_width-over info sets.types tree) ∙ asked-width info sets coherent apart estimates tables db fit (λ k. []) (Some q) tree realised;
          same = subst (λ rows. Weighs rows (rows_in q.set)) (plan_bag-over info sets.types db tree) (plan-same info sets coherent apart estimates tables db fit (λ k. []) (Some q) tree realised);
          given = record { kind = fits; sorted = subst (λ order. IsTrue (is_prefix q.order order)) (order_of-over info sets.types tree) ordered };
        }

    pub plan-formed : (o : Option Ask) (tree : PlanTree) → Realised space o tree → KeysWithin o → WellFormed o tree
    plan-formed _ _ not_asked within = record { input = refl; well = tt }
    plan-formed _ _ (by_root q w a b root ordered x y) within =
        let formed = way-formed q.set q.order within root.at w root.among in
        let left = plan-formed w.first a x formed.first in
        let right = plan-formed w.second b y formed.second in
        let there = formed.there a b left.input right.input in
        record {
          input = root-input q (rooted space q w a b) (by_root q w a b root ordered x y) there root.fit ordered;
          well = (formed.node a b left.input right.input, left.well, right.well);
        }
