-- Which nodes spell a member of a memo, and what they ask of their inputs.
use Rattle.std.specs.Prelude.{ℕ, ◌==◌, ◌&&◌, ◌||◌, ◌++◌, Bool, true, false, if◌then◌else◌, List, [], ◌∷◌, Option, Some, None, slice_get}
use Rattle.std.specs.List.{flat_map}
use Rattle.cal_value.specs.declared.operator.Op.{Op}
use Rattle.cal_value.specs.declared.operator.Op.TheVariants.{And}
use Rattle.cal_value.specs.declared.order.KeyOrder.{KeyOrder}
use Rattle.cal_value.specs.declared.kind.SqlType.{SqlType}
use Rattle.cal_expr.specs.declared.expr.Expr.{Expr}
use Rattle.cal_expr.specs.declared.expr.Expr.TheOpen.{Expr-F}
use Rattle.cal_expr.specs.declared.expr.Expr.TheFolds.{fold-Expr}
use Rattle.cal_schema.specs.declared.agg_call.AggCall.{AggCall}
use Rattle.cal_schema.specs.declared.join_kind.JoinKind.{JoinKind}
use Rattle.cal_schema.specs.declared.join_kind.JoinKind.TheVariants.{Inner, Left}
use Rattle.cal_schema.specs.declared.star_pair.StarPair.{StarPair}
use Rattle.cal_schema.specs.declared.table.AdapterKind.{AdapterKind}
use Rattle.cal_schema.specs.declared.table.AdapterKind.TheVariants.{Csv, Mem}
use Rattle.cal_schema.specs.declared.table.TableDef.{TableDef}
use Rattle.cal_schema.specs.declared.tile.TileInfo.{TileInfo}
use Rattle.cal_rel.specs.Bag.{set_width}
use Rattle.cal_rel.specs.Info.{Info}
use Rattle.cal_rel.specs.Tree.{Leaf, scan, tile_scan, star_scan, empty_of, Unary, filter_by, project_to, aggregate_by, Binary, join_on, Tree, leaf, unary, binary, hole}
use Rattle.cal_rel.specs.Typing.{pairs_of}
use Rattle.memo_model.specs.Sets.{Member}
use Rattle.adapters.specs.Scan.{is_comparison}
use Rattle.plan_nodes.specs.declared.nodes.PlanNode.{PlanNode}
use Rattle.plan_nodes.specs.declared.nodes.PlanNode.TheVariants.{MemScan, CsvScan, TileRead, MemFilter, MemProject, CsvProject, ToEnumerable, Filter, Project, NestedLoopJoin, HashJoin, MergeJoin, HashAggregate, SortedAggregate, EmptyRows, Sort}
use Rattle.plan_nodes.specs.declared.traits.Convention.{Convention}
use Rattle.plan_nodes.specs.declared.traits.Convention.TheVariants.{Tile, Enumerable}
use Rattle.plan_nodes.specs.Conventions.{same_convention, convention_of}
use Rattle.plan_nodes.specs.Orders.{item_column, first_place, left_order, right_order, ascending_by}
use Rattle.phys_plan.specs.declared.ways.Want.{Want}
use Rattle.phys_plan.specs.declared.ways.Want.TheVariants.{Rows, MemScanned, MemFiltered, MemKept, CsvScanned, CsvKept, Tiled}
use Rattle.phys_plan.specs.declared.ways.Ask.{Ask}
use Rattle.phys_plan.specs.declared.ways.Way.{Way}
use Rattle.phys_plan.specs.Spaces.{Space}

-- ---- what may be asked of an input

abbrev pub is_mem_scan : PlanNode → Bool
is_mem_scan (MemScan table) = true
is_mem_scan node = false

abbrev pub is_mem_filter : PlanNode → Bool
is_mem_filter (MemFilter predicate) = true
is_mem_filter node = false

abbrev pub is_csv_scan : PlanNode → Bool
is_csv_scan (CsvScan table) = true
is_csv_scan node = false

-- whether a node is of the kind that is asked: of a convention, or one of the nodes that a table's adapter can take over
abbrev pub fits : Want → PlanNode → Bool
fits Rows node = same_convention (convention_of node) Convention.Enumerable
fits MemScanned node = is_mem_scan node
fits MemFiltered node = is_mem_scan node || is_mem_filter node
fits MemKept node = same_convention (convention_of node) Convention.Mem
fits CsvScanned node = is_csv_scan node
fits CsvKept node = same_convention (convention_of node) Convention.Csv
fits Tiled node = same_convention (convention_of node) Convention.Tile

abbrev pub asks : ℕ → Want → List KeyOrder → Option Ask
asks set want order = Some (record { set = set; want = want; order = order })

abbrev pub way : PlanNode → Option Ask → Option Ask → Way
way node first second = record { node = node; first = first; second = second }

-- ---- forms that an adapter takes

-- what an expression is, as far as adapters ask
pub record Form : Type 0 where
  pub is_column : Bool
  pub is_literal : Bool
  pub is_tests : Bool

abbrev pub neither : Bool → Form
neither tests = record { is_column = false; is_literal = false; is_tests = tests }

abbrev pub form_of_operator : Op → Form → Form → Bool
form_of_operator And a b = a.is_tests && b.is_tests
form_of_operator op a b = is_comparison op && (a.is_column && b.is_literal)

abbrev pub form_step : Expr-F Form → Form
form_step (Expr-F.Column at) = record { is_column = true; is_literal = false; is_tests = false }
form_step (Expr-F.Literal v) = record { is_column = false; is_literal = true; is_tests = false }
form_step (Expr-F.Negate a) = neither false
form_step (Expr-F.Binary op a b) = neither (form_of_operator op a b)
form_step (Expr-F.Not a) = neither false
form_step (Expr-F.IsNull a) = neither false

abbrev pub form_of : Expr → Form
form_of e = fold-Expr Form form_step e

-- a column, a comparison and a literal, in this order, or an AND of such
abbrev pub is_tests : Expr → Bool
is_tests predicate = (form_of predicate).is_tests

abbrev pub is_none : Option ℕ → Bool
is_none None = true
is_none (Some n) = false

-- an item that is a column which is none of these
abbrev pub is_new : Option ℕ → List Expr → Bool
is_new None items = false
is_new (Some column) items = is_none (first_place column items)

-- each item is a column, and no two are the same one
abbrev pub are_different : List Expr → Bool
are_different [] = true
are_different (item ∷ items) = is_new (item_column item) items && are_different items

-- ---- the nodes that spell a member

abbrev pub scan_node : AdapterKind → ℕ → PlanNode
scan_node AdapterKind.Csv table = CsvScan table
scan_node AdapterKind.Mem table = MemScan table

abbrev pub scan_ways : ℕ → Option TableDef → List Way
scan_ways table None = []
scan_ways table (Some def) = way (scan_node def.adapter table) None None ∷ []

abbrev pub tile_ways : Option TileInfo → List Way
tile_ways None = []
tile_ways (Some tile) = way (TileRead tile.instance) None None ∷ []

abbrev pub leaf_ways : Info → Leaf → List Way
leaf_ways info (scan table) = scan_ways table (slice_get info.schema.tables table)
leaf_ways info (tile_scan at) = tile_ways (slice_get info.tiles at)
leaf_ways info (star_scan lattice) = []
leaf_ways info (empty_of types) = way (EmptyRows types) None None ∷ []

abbrev pub unary_ways : Unary → ℕ → List Way
unary_ways (filter_by predicate) k =
    way (Filter predicate) (asks k Rows []) None
    ∷ (if is_tests predicate then way (MemFilter predicate) (asks k MemScanned []) None ∷ [] else [])
unary_ways (project_to items) k =
    way (Project items) (asks k Rows []) None
    ∷ (if are_different items then way (MemProject items) (asks k MemFiltered []) None ∷ way (CsvProject items) (asks k CsvScanned []) None ∷ [] else [])
unary_ways (aggregate_by groups calls) k =
    way (HashAggregate groups calls) (asks k Rows []) None ∷ way (SortedAggregate groups calls) (asks k Rows (ascending_by groups)) None ∷ []

abbrev pub merge_ways : JoinKind → ℕ → Expr → ℕ → ℕ → List Way
merge_ways Inner width on j k = way (MergeJoin on) (asks j Rows (left_order width on)) (asks k Rows (right_order width on)) ∷ []
merge_ways Left width on j k = []

-- of joins that have pairs
abbrev pub pair_ways : List StarPair → JoinKind → ℕ → Expr → ℕ → ℕ → List Way
pair_ways [] kind width on j k = []
pair_ways (pair ∷ pairs) kind width on j k = way (HashJoin kind on) (asks j Rows []) (asks k Rows []) ∷ merge_ways kind width on j k

-- left rows have so many columns
abbrev pub binary_ways : Binary → ℕ → ℕ → ℕ → List Way
binary_ways (join_on kind on) width j k =
    way (NestedLoopJoin kind on) (asks j Rows []) (asks k Rows []) ∷ pair_ways (pairs_of width on) kind width on j k

-- of a node over sets; a lattice's star is no part that can be read
abbrev pub spells : Info → Tree → List Way
spells info (leaf l) = leaf_ways info l
spells info (unary u (hole k)) = unary_ways u k
spells info (unary u t) = []
spells info (binary b (hole j) (hole k)) = binary_ways b (set_width info j) j k
spells info (binary b s t) = []
spells info (hole k) = []

-- ---- all roots of plans of a set

abbrev pub sort_ways : ℕ → List KeyOrder → List Way
sort_ways set [] = []
sort_ways set (key ∷ order) = way (Sort (key ∷ order)) (asks set Rows []) None ∷ []

-- rows that are kept otherwise, made enumerable; a Sort has the order that is asked at its place, where one is asked
abbrev pub converters : ℕ → List KeyOrder → List Way
converters set order =
    way ToEnumerable (asks set MemKept []) None ∷ way ToEnumerable (asks set CsvKept []) None ∷ way ToEnumerable (asks set Tiled []) None ∷ sort_ways set order

abbrev pub spells_in : Info → ℕ → Member → List Way
spells_in info set member = if member.set == set then spells info member.tree else []

-- where this order is asked
abbrev pub ways : Space → ℕ → List KeyOrder → List Way
ways space set order = converters set order ++ flat_map (spells_in space.info set) space.members
