-- A set that holds a tree of parts that can be read has a plan in each order.
use Rattle.std.proofs.Common.{◌≡◌, ℕ, zero, suc, ◌<◌, ◌++◌, List, [], ◌∷◌, length, get_or, Option, Some, None, refl, sym, ◌∙◌, ap, subst, cond, true, false, Bool, eqb}
use Rattle.std.specs.List.{slice_get, flat_map}
use Rattle.std.proofs.lemmas.Bool.{eq-eqb}
use Rattle.std.proofs.lemmas.Option.{slice_get_read, slice_get_cases}
use Rattle.cal_value.specs.declared.kind.SqlType.{SqlType}
use Rattle.cal_value.specs.declared.order.KeyOrder.{KeyOrder}
use Rattle.cal_schema.specs.declared.table.AdapterKind.{AdapterKind}
use Rattle.cal_schema.specs.declared.table.AdapterKind.TheVariants.{Csv, Mem}
use Rattle.cal_schema.specs.declared.table.TableDef.{TableDef}
use Rattle.cal_schema.specs.declared.tile.TileInfo.{TileInfo}
use Rattle.cal_rel.specs.Bag.{set_width}
use Rattle.cal_rel.specs.Tree.{Leaf, scan, tile_scan, star_scan, empty_of, Unary, filter_by, project_to, aggregate_by, Binary, join_on, Tree, leaf, unary, binary, hole}
use Rattle.memo_model.specs.Sets.{Member, Has, Stands}
use Rattle.memo_model.proofs.ListLemmas.{element}
use Rattle.plan_nodes.specs.declared.nodes.PlanNode.{PlanNode}
use Rattle.plan_nodes.specs.declared.nodes.PlanNode.TheVariants.{MemScan, CsvScan, TileRead, ToEnumerable, Filter, Project, NestedLoopJoin, HashAggregate, EmptyRows, Sort}
use Rattle.plan_nodes.specs.Orders.{is_prefix}
use Rattle.plan_nodes.specs.PlanTrees.{PlanTree, nothing, plan, order_of}
use Rattle.plan_nodes.proofs.OrderLemmas.{prefix-self}
use Rattle.phys_plan.specs.declared.ways.Want.{Want}
use Rattle.phys_plan.specs.declared.ways.Want.TheVariants.{Rows, MemKept, CsvKept, Tiled}
use Rattle.phys_plan.specs.declared.ways.Ask.{Ask}
use Rattle.phys_plan.specs.declared.ways.Way.{Way}
use Rattle.phys_plan.specs.Spaces.{Space, estimate, part_len}
use Rattle.phys_plan.specs.Ways.{fits, asks, way, scan_ways, tile_ways, spells, converters, spells_in, ways}
use Rattle.phys_plan.specs.Plans.{Realises, rows_asked}
use Rattle.phys_plan.specs.Realised.{IsPlanOf, HasPlan, rooted}
use Rattle.phys_plan.specs.Grounded.{IsPart, IsGround, HoldsTree}
use Rattle.phys_plan.proofs.Members.{Among, among-left, among-right, among-flat}
use Rattle.phys_plan.proofs.Bridge.{to-realised}

-- a plan of what is asked
pub record Planned (space : Space) (ask : Ask) : Type 0 where
  pub tree : PlanTree
  pub realised : Realises space (Some ask) tree

abbrev ask_of : ℕ → Want → List KeyOrder → Ask
ask_of set want order = record { set = set; want = want; order = order }

abbrev member_of : ℕ → Tree → Member
member_of set node = record { set = set; tree = node }

-- a way that spells a member is one of its set's
pub among-ways : (space : Space) (set : ℕ) (node : Tree) (order : List KeyOrder) (w : Way) → Has space.members set node → Among (spells space.info node) w → Among (ways space set order) w
among-ways space set node order w h g =
    let same : eqb set set ≡ true = eq-eqb set set refl in
    let here : Among space.members (member_of set node) =
    record { at = h.at.0; got = slice_get_read space.members (length space.members) h.at.0 (member_of set node) refl h.at.1 (sym h.at.2) } in
    among-right (converters set order) (flat_map (spells_in space.info set) space.members) w
    (among-flat (spells_in space.info set) space.members (member_of set node) w here (rw same g))

-- a plan by a way, over plans of its inputs
by-way : (space : Space) (q : Ask) (w : Way) (a b : PlanTree) → Among (ways space q.set q.order) w → fits q.want w.node ≡ true
    → is_prefix q.order (order_of space.info (rooted space q w a b)) ≡ true → Realises space w.first a → Realises space w.second b → Planned space q
by-way space q w a b h fit ordered x y = record {
  tree = rooted space q w a b;
  realised = (q, h.at, w, refl, h.got, refl, fit, refl, refl, ordered, x, y);
}

-- a member over plans of its inputs
made : (space : Space) (set : ℕ) (want : Want) (node : Tree) (root : PlanNode) (first second : Option Ask) (a b : PlanTree) → Has space.members set node
    → Among (spells space.info node) (way root first second) → fits want root ≡ true → Realises space first a → Realises space second b → Planned space (ask_of set want [])
made space set want node root first second a b h here fit x y =
    by-way space (ask_of set want []) (way root first second) a b (among-ways space set node [] (way root first second) h here) fit refl x y

-- a plan that is kept otherwise, made enumerable
enumerable : (space : Space) (set at : ℕ) (want : Want) → slice_get (ways space set []) at ≡ Some (way ToEnumerable (asks set want []) None)
    → Planned space (ask_of set want []) → Planned space (ask_of set Rows [])
enumerable space set at want got p =
    by-way space (ask_of set Rows []) (way ToEnumerable (asks set want []) None) p.tree nothing (record { at = at; got = got }) refl refl p.realised refl

scan-plan : (space : Space) (set table : ℕ) (kind : AdapterKind) → Has space.members set (leaf (scan table)) → (def : TableDef)
    → slice_get space.info.schema.tables table ≡ Some def → def.adapter ≡ kind → Planned space (ask_of set Rows [])
scan-plan space set table Csv h def is kind =
    enumerable space set (suc zero) CsvKept refl
    (made space set CsvKept (leaf (scan table)) (CsvScan table) None None nothing nothing h (rw (is, kind) (record { at = zero; got = refl })) refl refl refl)
scan-plan space set table Mem h def is kind =
    enumerable space set zero MemKept refl
    (made space set MemKept (leaf (scan table)) (MemScan table) None None nothing nothing h (rw (is, kind) (record { at = zero; got = refl })) refl refl refl)

-- the element at a place
there_is : {A : Type 0} (xs : List A) (i : ℕ) → i < length xs → (x : A) × (slice_get xs i ≡ Some x)
there_is xs i low = let e = element xs i low in (e.0, slice_get_read xs (length xs) i e.0 refl low (sym e.1))

leaf-plan : (space : Space) (set : ℕ) (l : Leaf) → Has space.members set (leaf l) → IsPart space.info l → Planned space (ask_of set Rows [])
leaf-plan space set (scan table) h low =
    let def = there_is space.info.schema.tables table low in
    scan-plan space set table def.0.adapter h def.0 def.1 refl
leaf-plan space set (tile_scan at) h low =
    let tile = there_is space.info.tiles at low in
    enumerable space set (suc (suc zero)) Tiled refl
    (made space set Tiled (leaf (tile_scan at)) (TileRead tile.0.instance) None None nothing nothing h (rw tile.1 (record { at = zero; got = refl })) refl refl refl)
leaf-plan space set (star_scan lattice) h low = absurd low
leaf-plan space set (empty_of types) h low =
    made space set Rows (leaf (empty_of types)) (EmptyRows types) None None nothing nothing h (record { at = zero; got = refl }) refl refl refl

unary-plan : (space : Space) (set k : ℕ) (u : Unary) → Has space.members set (unary u (hole k)) → Planned space (ask_of k Rows []) → Planned space (ask_of set Rows [])
unary-plan space set k (filter_by p) h x =
    made space set Rows (unary (filter_by p) (hole k)) (Filter p) (asks k Rows []) None x.tree nothing h (record { at = zero; got = refl }) refl x.realised refl
unary-plan space set k (project_to items) h x =
    made space set Rows (unary (project_to items) (hole k)) (Project items) (asks k Rows []) None x.tree nothing h (record { at = zero; got = refl }) refl x.realised refl
unary-plan space set k (aggregate_by groups calls) h x =
    made space set Rows (unary (aggregate_by groups calls) (hole k)) (HashAggregate groups calls) (asks k Rows []) None x.tree nothing h (record { at = zero; got = refl }) refl x.realised refl

binary-plan : (space : Space) (set j k : ℕ) (b : Binary) → Has space.members set (binary b (hole j) (hole k)) → Planned space (ask_of j Rows []) → Planned space (ask_of k Rows [])
    → Planned space (ask_of set Rows [])
binary-plan space set j k (join_on kind on) h x y =
    made space set Rows (binary (join_on kind on) (hole j) (hole k)) (NestedLoopJoin kind on) (asks j Rows []) (asks k Rows []) x.tree y.tree h
    (record { at = zero; got = refl }) refl x.realised y.realised

ground-plan : (space : Space) (tree : Tree) (set : ℕ) → Stands space.members set tree → IsGround space.info tree → Planned space (ask_of set Rows [])
ground-plan space (leaf l) set stands ground = leaf-plan space set l stands ground
ground-plan space (unary u t) set stands ground = unary-plan space set stands.0 u stands.1 (ground-plan space t stands.0 stands.2 ground)
ground-plan space (binary b s t) set stands ground =
    binary-plan space set stands.0 stands.1 b stands.2 (ground-plan space s stands.0 stands.3 ground.0) (ground-plan space t stands.1 stands.4 ground.1)
ground-plan space (hole k) set stands ground = absurd ground

ordered-plan : (space : Space) (set : ℕ) (order : List KeyOrder) → HoldsTree space set → Planned space (ask_of set Rows order)
ordered-plan space set [] holds = ground-plan space holds.tree set holds.stands holds.ground
ordered-plan space set (key ∷ order) holds =
    let inner : Planned space (ask_of set Rows []) = ground-plan space holds.tree set holds.stands holds.ground in
    by-way space (ask_of set Rows (key ∷ order)) (way (Sort (key ∷ order)) (asks set Rows []) None) inner.tree nothing
    (record { at = suc (suc (suc zero)); got = refl }) refl (prefix-self (key ∷ order)) inner.realised refl

pub has-plan : (space : Space) (set : ℕ) (order : List KeyOrder) → HoldsTree space set → HasPlan space set order
has-plan space set order holds =
    let p : Planned space (ask_of set Rows order) = ordered-plan space set order holds in
    record { tree = p.tree; plan_of = record { realised = to-realised space (Some (rows_asked set order)) p.tree p.realised } }
