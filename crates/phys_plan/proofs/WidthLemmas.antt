-- A plan has as many columns as the set that it realises.
use Rattle.std.proofs.Common.{◌≡◌, ℕ, zero, ◌<◌, ◌++◌, List, [], ◌∷◌, length, get_or, Option, Some, None, refl, sym, ◌∙◌, ap, subst, cond, true, false, Bool, eqb}
use Rattle.std.specs.Prelude.{Contains, option_map, unwrap_or}
use Rattle.std.specs.List.{slice_get, flat_map}
use Rattle.std.proofs.lemmas.Bool.{eqb-true}
use Rattle.std.proofs.lemmas.Option.{slice_get-get_or, slice_get_within}
use Rattle.cal_value.specs.declared.order.KeyOrder.{KeyOrder}
use Rattle.cal_expr.specs.declared.expr.Expr.{Expr}
use Rattle.cal_schema.specs.declared.join_kind.JoinKind.{JoinKind}
use Rattle.cal_schema.specs.declared.join_kind.JoinKind.TheVariants.{Inner, Left}
use Rattle.cal_schema.specs.declared.star_pair.StarPair.{StarPair}
use Rattle.cal_schema.specs.declared.table.AdapterKind.{AdapterKind}
use Rattle.cal_schema.specs.declared.table.AdapterKind.TheVariants.{Csv, Mem}
use Rattle.cal_schema.specs.declared.table.TableDef.{TableDef}
use Rattle.cal_schema.specs.declared.tile.TileInfo.{TileInfo}
use Rattle.cal_rel.specs.Bag.{set_width, width, table_width, tile_width}
use Rattle.cal_rel.specs.Info.{Info}
use Rattle.cal_rel.specs.Tree.{Leaf, scan, tile_scan, star_scan, empty_of, Unary, filter_by, project_to, aggregate_by, Binary, join_on, Tree, leaf, unary, binary, hole}
use Rattle.cal_rel.specs.Typing.{pairs_of}
use Rattle.memo_model.specs.Sets.{Member, Has}
use Rattle.plan_nodes.specs.declared.nodes.PlanNode.{PlanNode}
use Rattle.plan_nodes.specs.Orders.{tile_of, left_order, right_order}
use Rattle.plan_nodes.specs.PlanTrees.{PlanTree, nothing, plan, plan_width, node_width, instance_width}
use Rattle.phys_plan.specs.declared.ways.Ask.{Ask}
use Rattle.phys_plan.specs.declared.ways.Way.{Way}
use Rattle.phys_plan.specs.Spaces.{Space, HasWidths}
use Rattle.phys_plan.specs.Ways.{way, is_tests, are_different, scan_ways, scan_node, tile_ways, leaf_ways, unary_ways, merge_ways, pair_ways, binary_ways, spells, sort_ways, converters, spells_in, ways}
use Rattle.phys_plan.specs.Plans.{Realises}
use Rattle.phys_plan.specs.Alternatives.{asked_width}
use Rattle.phys_plan.proofs.Members.{Among, Every, every-get, every-if, every-append, every-flat}

-- over inputs that are as wide as their sets, the way's node is so wide
pub record IsWide (space : Space) (n : ℕ) (w : Way) : Type 0 where
  pub is : node_width space.info w.node (asked_width space w.first) (asked_width space w.second) ≡ n

scan-wide : (space : Space) (table : ℕ) (kind : AdapterKind) → IsWide space (table_width space.info.schema table) (way (scan_node kind table) None None)
scan-wide space table Csv = record { is = refl }
scan-wide space table Mem = record { is = refl }

scans-wide : (space : Space) (table : ℕ) (def : Option TableDef) → Every (IsWide space (table_width space.info.schema table)) (scan_ways table def)
scans-wide space table None = tt
scans-wide space table (Some def) = (scan-wide space table def.adapter, tt)

abbrev width_at : Info → Option TileInfo → ℕ
width_at info tile = unwrap_or (option_map (λ tile. tile_width info tile.key) tile) 0

tiles-wide : (space : Space) → HasWidths space → (at : ℕ) (tile : Option TileInfo) → slice_get space.info.tiles at ≡ tile
    → Every (IsWide space (width_at space.info tile)) (tile_ways tile)
tiles-wide space h at None e = tt
tiles-wide space h at (Some tile) e = (record { is = ap (width_at space.info) (h.instances at tile e) }, tt)

leaf-wide : (space : Space) → HasWidths space → (l : Leaf) → Every (IsWide space (width space.info (leaf l))) (leaf_ways space.info l)
leaf-wide space h (scan table) = scans-wide space table (slice_get space.info.schema.tables table)
leaf-wide space h (tile_scan at) = tiles-wide space h at (slice_get space.info.tiles at) refl
leaf-wide space h (star_scan lattice) = tt
leaf-wide space h (empty_of types) = (record { is = refl }, tt)

unary-wide : (space : Space) (u : Unary) (k : ℕ) → Every (IsWide space (width space.info (unary u (hole k)))) (unary_ways u k)
unary-wide space (filter_by p) k =
    (record { is = refl }, every-if (IsWide space (set_width space.info k)) (is_tests p) _ [] (record { is = refl }, tt) tt)
unary-wide space (project_to items) k =
    (record { is = refl }, every-if (IsWide space (length items)) (are_different items) _ [] (record { is = refl }, (record { is = refl }, tt)) tt)
unary-wide space (aggregate_by groups calls) k = (record { is = refl }, (record { is = refl }, tt))

merge-wide : (space : Space) (kind : JoinKind) (on : Expr) (m j k : ℕ) → Every (IsWide space (width space.info (binary (join_on kind on) (hole j) (hole k)))) (merge_ways kind m on j k)
merge-wide space Inner on m j k = (record { is = refl }, tt)
merge-wide space Left on m j k = tt

pairs-wide : (space : Space) (pairs : List StarPair) (kind : JoinKind) (on : Expr) (m j k : ℕ)
    → Every (IsWide space (width space.info (binary (join_on kind on) (hole j) (hole k)))) (pair_ways pairs kind m on j k)
pairs-wide space [] kind on m j k = tt
pairs-wide space (pair ∷ pairs) kind on m j k = (record { is = refl }, merge-wide space kind on m j k)

binary-wide : (space : Space) (b : Binary) (m j k : ℕ) → Every (IsWide space (width space.info (binary b (hole j) (hole k)))) (binary_ways b m j k)
binary-wide space (join_on kind on) m j k = (record { is = refl }, pairs-wide space (pairs_of m on) kind on m j k)

spelled-wide : (space : Space) → HasWidths space → (t : Tree) → Every (IsWide space (width space.info t)) (spells space.info t)
spelled-wide space h (leaf l) = leaf-wide space h l
spelled-wide space h (unary u (leaf l)) = tt
spelled-wide space h (unary u (unary v t)) = tt
spelled-wide space h (unary u (binary b s t)) = tt
spelled-wide space h (unary u (hole k)) = unary-wide space u k
spelled-wide space h (binary b (leaf l) t) = tt
spelled-wide space h (binary b (unary u s) t) = tt
spelled-wide space h (binary b (binary c r s) t) = tt
spelled-wide space h (binary b (hole j) (leaf l)) = tt
spelled-wide space h (binary b (hole j) (unary u t)) = tt
spelled-wide space h (binary b (hole j) (binary c s t)) = tt
spelled-wide space h (binary b (hole j) (hole k)) = binary-wide space b (set_width space.info j) j k
spelled-wide space h (hole k) = tt

sorted-wide : (space : Space) (set : ℕ) (order : List KeyOrder) → Every (IsWide space (set_width space.info set)) (sort_ways set order)
sorted-wide space set [] = tt
sorted-wide space set (key ∷ order) = (record { is = refl }, tt)

converted-wide : (space : Space) (set : ℕ) (order : List KeyOrder) → Every (IsWide space (set_width space.info set)) (converters set order)
converted-wide space set order = (record { is = refl }, (record { is = refl }, (record { is = refl }, sorted-wide space set order)))

-- a member's place in the list is the set's own
pub has-member : (space : Space) (m : Member) → Among space.members m → Has space.members m.set m.tree
has-member space m h =
    let low : h.at < length space.members = slice_get_within space.members h.at m h.got in
    let there : slice_get space.members h.at ≡ Some (get_or space.members h.at m) = slice_get-get_or space.members h.at m low in
    let same : get_or space.members h.at m ≡ m = let e = h.got in cc in
    record { at = (h.at, low, same) }

member-wide : (space : Space) → HasWidths space → (set : ℕ) (m : Member) → Among space.members m → Every (IsWide space (set_width space.info set)) (spells_in space.info set m)
member-wide space h set m among = at_test (eqb m.set set) refl
  where
    at_test : (b : Bool) → eqb m.set set ≡ b → Every (IsWide space (set_width space.info set)) (cond b (spells space.info m.tree) [])
    at_test false e = tt
    at_test true e =
        let same : m.set ≡ set = eqb-true m.set set e in
        let wide : width space.info m.tree ≡ set_width space.info set = h.columns m.set m.tree (has-member space m among) ∙ ap (set_width space.info) same in
        subst (λ n. Every (IsWide space n) (spells space.info m.tree)) wide (spelled-wide space h m.tree)

ways-wide : (space : Space) → HasWidths space → (set : ℕ) (order : List KeyOrder) (k : ℕ) (w : Way) → slice_get (ways space set order) k ≡ Some w → IsWide space (set_width space.info set) w
ways-wide space h set order k w e =
    let P : Way → Type 0 = IsWide space (set_width space.info set) in
    every-get P (ways space set order) w k
    (every-append P (converters set order) (flat_map (spells_in space.info set) space.members) (converted-wide space set order)
    (every-flat P (spells_in space.info set) space.members (λ m among. member-wide space h set m among))) e

asked-wide : (space : Space) → HasWidths space → (tree : PlanTree) (ask : Option Ask) → Realises space ask tree → plan_width space.info tree ≡ asked_width space ask
asked-wide space h nothing ask x = rw x refl
asked-wide space h (plan node rows part a b) ask x =
    let q : Ask = x.0 in
    let w : Way = x.2 in
    let left : plan_width space.info a ≡ asked_width space w.first = asked-wide space h a w.first x.10 in
    let right : plan_width space.info b ≡ asked_width space w.second = asked-wide space h b w.second x.11 in
    let wide : IsWide space (set_width space.info q.set) w = ways-wide space h q.set q.order x.1 w x.4 in
    rw (x.3, x.5, left, right) wide.is

pub plan-wide : (space : Space) (ask : Ask) (tree : PlanTree) → HasWidths space → Realises space (Some ask) tree → plan_width space.info tree ≡ set_width space.info ask.set
plan-wide space ask tree h x = asked-wide space h tree (Some ask) x
