-- Each way asks of its inputs what its node's row asks.
use Rattle.std.proofs.Common.{◌≡◌, ℕ, zero, ◌++◌, List, [], ◌∷◌, length, Option, Some, None, refl, sym, ◌∙◌, ap, subst, cond, true, false, Bool, eqb}
use Rattle.std.specs.List.{slice_get, flat_map}
use Rattle.cal_value.specs.declared.kind.SqlType.{SqlType}
use Rattle.cal_value.specs.declared.order.KeyOrder.{KeyOrder}
use Rattle.cal_expr.specs.declared.expr.Expr.{Expr}
use Rattle.cal_schema.specs.declared.join_kind.JoinKind.{JoinKind}
use Rattle.cal_schema.specs.declared.join_kind.JoinKind.TheVariants.{Inner, Left}
use Rattle.cal_schema.specs.declared.star_pair.StarPair.{StarPair}
use Rattle.cal_schema.specs.declared.table.AdapterKind.{AdapterKind}
use Rattle.cal_schema.specs.declared.table.AdapterKind.TheVariants.{Csv, Mem}
use Rattle.cal_schema.specs.declared.table.TableDef.{TableDef}
use Rattle.cal_schema.specs.declared.tile.TileInfo.{TileInfo}
use Rattle.cal_rel.specs.Bag.{set_width}
use Rattle.cal_rel.specs.Tree.{Leaf, scan, tile_scan, star_scan, empty_of, Unary, filter_by, project_to, aggregate_by, Binary, join_on, Tree, leaf, unary, binary, hole}
use Rattle.cal_rel.specs.Typing.{pairs_of}
use Rattle.memo_model.specs.Sets.{Member}
use Rattle.plan_nodes.specs.declared.nodes.PlanNode.{PlanNode}
use Rattle.plan_nodes.specs.declared.nodes.PlanNode.TheVariants.{MemScan, CsvScan, TileRead, MemFilter, MemProject, CsvProject, ToEnumerable, Filter, Project, NestedLoopJoin, HashJoin, MergeJoin, HashAggregate, SortedAggregate, EmptyRows, Sort}
use Rattle.plan_nodes.specs.Orders.{is_prefix, gives, below, asked_order, tile_order, left_order, right_order, ascending_by}
use Rattle.plan_nodes.specs.PlanTrees.{PlanTree, nothing, plan, order_of, plan_width, rows_of}
use Rattle.plan_nodes.specs.Seen.{planned}
use Rattle.plan_nodes.proofs.OrderLemmas.{given-parts}
use Rattle.phys_plan.specs.declared.ways.Want.{Want}
use Rattle.phys_plan.specs.declared.ways.Want.TheVariants.{Rows, MemScanned, MemFiltered, MemKept, CsvScanned, CsvKept, Tiled}
use Rattle.phys_plan.specs.declared.ways.Ask.{Ask}
use Rattle.phys_plan.specs.declared.ways.Way.{Way}
use Rattle.phys_plan.specs.Spaces.{Space}
use Rattle.phys_plan.specs.Ways.{asks, way, is_tests, are_different, scan_node, scan_ways, tile_ways, leaf_ways, unary_ways, merge_ways, pair_ways, binary_ways, spells, sort_ways, converters, spells_in, ways}
use Rattle.phys_plan.specs.Plans.{Realises}
use Rattle.phys_plan.specs.Alternatives.{asked_width, asked_rows}
use Rattle.phys_plan.specs.Inputs.{IsOrderOf, EndsAt, there, IsRow}
use Rattle.phys_plan.proofs.Members.{Every, every-get, every-if, every-append, every-flat}

-- ---- plans of what is asked

pub none-realised : (space : Space) (tree : PlanTree) → Realises space None tree → tree ≡ nothing
none-realised space nothing h = refl
none-realised space (plan node rows part a b) h = let e = h.3 in absurd cc

some-there : (space : Space) (ask : Ask) (tree : PlanTree) → Realises space (Some ask) tree → there tree ≡ Some tree ∷ []
some-there space ask nothing h = absurd cc
some-there space ask (plan node rows part a b) h = refl

-- a plan that realises what is asked delivers the asked order
pub realised-order : (space : Space) (ask : Option Ask) (tree : PlanTree) (order : List KeyOrder) → Realises space ask tree → IsOrderOf ask order
    → is_prefix order (order_of space.info tree) ≡ true
realised-order space None nothing order h o = rw o refl
realised-order space (Some ask) nothing order h o = absurd cc
realised-order space None (plan node rows part a b) order h o = let e = h.3 in absurd cc
realised-order space (Some ask) (plan node rows part a b) order h o =
    let same : ask ≡ h.0 = let e = h.3 in cc in
    let is : h.0.order ≡ order = subst (λ q. q.order ≡ order) same o in
    subst (λ given. is_prefix given (gives space.info (plan_width space.info a) node (order_of space.info a)) ≡ true) is h.9

pub realised-rows : (space : Space) (ask : Option Ask) (tree : PlanTree) → Realises space ask tree → rows_of tree ≡ asked_rows space ask
realised-rows space None nothing h = refl
realised-rows space (Some ask) nothing h = absurd cc
realised-rows space None (plan node rows part a b) h = let e = h.3 in absurd cc
realised-rows space (Some ask) (plan node rows part a b) h =
    let same : ask ≡ h.0 = let e = h.3 in cc in
    rw same h.7

-- ---- rows by how many inputs they ask

row-none : (space : Space) (node : PlanNode) → [] ≡ asked_order 0 node → EndsAt space.info None node
    → ((rows part : ℕ) → planned node rows part [] ≡ Some (plan node rows part nothing nothing)) → IsRow space (way node None None)
row-none space node order ends all = record {
  order = sym order;
  ends = ends;
  second = λ e. refl;
  inputs = λ rows part a b x y. rw (none-realised space a x, none-realised space b y) (all rows part);
}

row-one : (space : Space) (node : PlanNode) (ask : Ask) → ask.order ≡ asked_order (set_width space.info ask.set) node
    → ((rows part : ℕ) (t : PlanTree) → planned node rows part (Some t ∷ []) ≡ Some (plan node rows part t nothing)) → IsRow space (way node (Some ask) None)
row-one space node ask order all = record {
  order = order;
  ends = tt;
  second = λ e. absurd cc;
  inputs = λ rows part a b x y. rw (some-there space ask a x, none-realised space b y) (all rows part a);
}

row-two : (space : Space) (node : PlanNode) (ask other : Ask) → ask.order ≡ asked_order (set_width space.info ask.set) node
    → ((rows part : ℕ) (s t : PlanTree) → planned node rows part (Some s ∷ Some t ∷ []) ≡ Some (plan node rows part s t)) → IsRow space (way node (Some ask) (Some other))
row-two space node ask other order all = record {
  order = order;
  ends = tt;
  second = λ e. absurd cc;
  inputs = λ rows part a b x y. rw (some-there space ask a x, some-there space other b y) (all rows part a b);
}

abbrev ask_of : ℕ → Want → List KeyOrder → Ask
ask_of set want order = record { set = set; want = want; order = order }

-- ---- members

scan-row : (space : Space) (table : ℕ) (kind : AdapterKind) → IsRow space (way (scan_node kind table) None None)
scan-row space table Csv = row-none space (CsvScan table) refl (λ need rest e. (given-parts (is_prefix need []) [] rest e).1) (λ rows part. refl)
scan-row space table Mem = row-none space (MemScan table) refl (λ need rest e. (given-parts (is_prefix need []) [] rest e).1) (λ rows part. refl)

scan-rows : (space : Space) (table : ℕ) (def : Option TableDef) → Every (IsRow space) (scan_ways table def)
scan-rows space table None = tt
scan-rows space table (Some def) = (scan-row space table def.adapter, tt)

tile-rows : (space : Space) (tile : Option TileInfo) → Every (IsRow space) (tile_ways tile)
tile-rows space None = tt
tile-rows space (Some tile) =
    (row-none space (TileRead tile.instance) refl (λ need rest e. (given-parts (is_prefix need (tile_order space.info tile.instance)) [] rest e).1) (λ rows part. refl), tt)

leaf-rows : (space : Space) (l : Leaf) → Every (IsRow space) (leaf_ways space.info l)
leaf-rows space (scan table) = scan-rows space table (slice_get space.info.schema.tables table)
leaf-rows space (tile_scan at) = tile-rows space (slice_get space.info.tiles at)
leaf-rows space (star_scan lattice) = tt
leaf-rows space (empty_of types) = (row-none space (EmptyRows types) refl (λ need rest e. (given-parts (is_prefix need []) [] rest e).1) (λ rows part. refl), tt)

unary-rows : (space : Space) (u : Unary) (k : ℕ) → Every (IsRow space) (unary_ways u k)
unary-rows space (filter_by p) k = (
  row-one space (Filter p) (ask_of k Rows []) refl (λ rows part t. refl),
  every-if (IsRow space) (is_tests p) _ [] (row-one space (MemFilter p) (ask_of k MemScanned []) refl (λ rows part t. refl), tt) tt,
)
unary-rows space (project_to items) k = (
  row-one space (Project items) (ask_of k Rows []) refl (λ rows part t. refl),
  every-if (IsRow space) (are_different items) _ [] (
    row-one space (MemProject items) (ask_of k MemFiltered []) refl (λ rows part t. refl),
    (row-one space (CsvProject items) (ask_of k CsvScanned []) refl (λ rows part t. refl), tt),
  ) tt,
)
unary-rows space (aggregate_by groups calls) k = (
  row-one space (HashAggregate groups calls) (ask_of k Rows []) refl (λ rows part t. refl),
  (row-one space (SortedAggregate groups calls) (ask_of k Rows (ascending_by groups)) refl (λ rows part t. refl), tt),
)

merge-rows : (space : Space) (kind : JoinKind) (on : Expr) (j k : ℕ) → Every (IsRow space) (merge_ways kind (set_width space.info j) on j k)
merge-rows space Inner on j k =
    let width = set_width space.info j in
    (row-two space (MergeJoin on) (ask_of j Rows (left_order width on)) (ask_of k Rows (right_order width on)) refl (λ rows part s t. refl), tt)
merge-rows space Left on j k = tt

pair-rows : (space : Space) (pairs : List StarPair) (kind : JoinKind) (on : Expr) (j k : ℕ) → Every (IsRow space) (pair_ways pairs kind (set_width space.info j) on j k)
pair-rows space [] kind on j k = tt
pair-rows space (pair ∷ pairs) kind on j k =
    (row-two space (HashJoin kind on) (ask_of j Rows []) (ask_of k Rows []) refl (λ rows part s t. refl), merge-rows space kind on j k)

binary-rows : (space : Space) (b : Binary) (j k : ℕ) → Every (IsRow space) (binary_ways b (set_width space.info j) j k)
binary-rows space (join_on kind on) j k = (
  row-two space (NestedLoopJoin kind on) (ask_of j Rows []) (ask_of k Rows []) refl (λ rows part s t. refl),
  pair-rows space (pairs_of (set_width space.info j) on) kind on j k,
)

rows-spelled : (space : Space) (t : Tree) → Every (IsRow space) (spells space.info t)
rows-spelled space (leaf l) = leaf-rows space l
rows-spelled space (unary u (leaf l)) = tt
rows-spelled space (unary u (unary v t)) = tt
rows-spelled space (unary u (binary b s t)) = tt
rows-spelled space (unary u (hole k)) = unary-rows space u k
rows-spelled space (binary b (leaf l) t) = tt
rows-spelled space (binary b (unary u s) t) = tt
rows-spelled space (binary b (binary c r s) t) = tt
rows-spelled space (binary b (hole j) (leaf l)) = tt
rows-spelled space (binary b (hole j) (unary u t)) = tt
rows-spelled space (binary b (hole j) (binary c s t)) = tt
rows-spelled space (binary b (hole j) (hole k)) = binary-rows space b j k
rows-spelled space (hole k) = tt

rows-sorted : (space : Space) (set : ℕ) (order : List KeyOrder) → Every (IsRow space) (sort_ways set order)
rows-sorted space set [] = tt
rows-sorted space set (key ∷ order) = (row-one space (Sort (key ∷ order)) (ask_of set Rows []) refl (λ rows part t. refl), tt)

rows-converted : (space : Space) (set : ℕ) (order : List KeyOrder) → Every (IsRow space) (converters set order)
rows-converted space set order = (
  row-one space ToEnumerable (ask_of set MemKept []) refl (λ rows part t. refl),
  (
    row-one space ToEnumerable (ask_of set CsvKept []) refl (λ rows part t. refl),
    (row-one space ToEnumerable (ask_of set Tiled []) refl (λ rows part t. refl), rows-sorted space set order),
  ),
)

pub rows-all : (space : Space) (set : ℕ) (order : List KeyOrder) (k : ℕ) (w : Way) → slice_get (ways space set order) k ≡ Some w → IsRow space w
rows-all space set order k w e =
    every-get (IsRow space) (ways space set order) w k
    (every-append (IsRow space) (converters set order) (flat_map (spells_in space.info set) space.members) (rows-converted space set order)
    (every-flat (IsRow space) (spells_in space.info set) space.members
    (λ m among. every-if (IsRow space) (eqb m.set set) (spells space.info m.tree) [] (rows-spelled space m.tree) tt))) e
