-- For the code: a plan that is one scan of a table, and what is asked of the table's adapter.
use Rattle.std.specs.Prelude.{◌≡◌, ℕ, Bool, true, false, ◌&&◌, IsTrue, List, [], length, map, filter, All, IfSome, IsSome, Option, Some, None, option_map, unwrap_or}
use Rattle.cal_value.specs.Order.{columns_of}
use Rattle.cal_expr.specs.declared.expr.Expr.{Expr}
use Rattle.cal_schema.specs.declared.schema.Schema.{Schema}
use Rattle.cal_snapshot.specs.declared.part.Part.TheVariants.{Table, Tile}
use Rattle.cal_snapshot.specs.Parts.{Parts, rows_of, rows_in}
use Rattle.cal_rel.specs.Bag.{table_width}
use Rattle.cal_rel.specs.Operators.{Row, holds, projected}
use Rattle.adapters.specs.declared.request.ColumnTest.{ColumnTest}
use Rattle.adapters.specs.declared.request.ScanRequest.{ScanRequest}
use Rattle.adapters.specs.Scan.{HasNoTests, meets_all, scanned}
use Rattle.plan_nodes.specs.declared.nodes.PlanNode.{PlanNode}
use Rattle.plan_nodes.specs.declared.nodes.PlanNode.TheVariants.{MemScan, CsvScan, TileRead, MemFilter, MemProject, CsvProject, ToEnumerable, Filter, Project, NestedLoopJoin, HashJoin, MergeJoin, HashAggregate, SortedAggregate, EmptyRows, Sort}
use Rattle.plan_nodes.specs.declared.plan.Plan.{Plan}
use Rattle.plan_nodes.specs.PlanTrees.{PlanTree, nothing, plan}
use Rattle.plan_nodes.specs.Seen.{plan_tree}
use Rattle.phys_plan.specs.Ways.{is_tests, are_different}

-- ---- chains

-- a table, whether a file holds it, the test of its rows and the items that are made of each, where there are such
pub record Chain : Type 0 where
  pub table : ℕ
  pub csv : Bool
  pub predicate : Option Expr
  pub items : Option (List Expr)

abbrev pub whole : Bool → ℕ → Chain
whole csv table = record { table = table; csv = csv; predicate = None; items = None }

abbrev pub tested : Expr → Chain → Chain
tested predicate c = record { table = c.table; csv = c.csv; predicate = Some predicate; items = c.items }

abbrev pub made : List Expr → Chain → Chain
made items c = record { table = c.table; csv = c.csv; predicate = c.predicate; items = Some items }

-- of a node over the chain of its first input
abbrev pub chained : PlanNode → Option Chain → Option Chain
chained (MemScan table) below = Some (whole false table)
chained (CsvScan table) below = Some (whole true table)
chained (TileRead tile) below = None
chained (MemFilter predicate) below = option_map (tested predicate) below
chained (MemProject items) below = option_map (made items) below
chained (CsvProject items) below = option_map (made items) below
chained ToEnumerable below = None
chained (Filter predicate) below = None
chained (Project items) below = None
chained (NestedLoopJoin kind on) below = None
chained (HashJoin kind on) below = None
chained (MergeJoin on) below = None
chained (HashAggregate groups calls) below = None
chained (SortedAggregate groups calls) below = None
chained (EmptyRows types) below = None
chained (Sort keys) below = None

abbrev pub chain_of : PlanTree → Option Chain
chain_of nothing = None
chain_of (plan node rows part a b) = chained node (chain_of a)

-- the chain of the plan's tree
pub record IsChain (p : Plan) (o : Option Chain) : Type 0 where
  pub of : (tree : PlanTree) → plan_tree p ≡ Some tree → o ≡ chain_of tree

-- ---- rows

abbrev pub tested_rows : Option Expr → List Row → List Row
tested_rows None rows = rows
tested_rows (Some predicate) rows = filter (holds predicate) rows

abbrev pub made_rows : Option (List Expr) → List Row → List Row
made_rows None rows = rows
made_rows (Some items) rows = map (projected items) rows

abbrev pub chain_rows : Chain → List Row → List Row
chain_rows chain rows = made_rows chain.items (tested_rows chain.predicate rows)

-- ---- requests

-- so many values in each row
abbrev pub AreWide : ℕ → List Row → Type 0
AreWide width rows = All (λ row. length row ≡ width) rows

-- behind the tests before, those that the predicate is
pub record AddsTests (predicate : Expr) (before after : List ColumnTest) : Type 0 where
  pub met : (row : Row) → meets_all after row ≡ (meets_all before row && holds predicate row)

-- the tests keep the rows that the predicate keeps
pub record AreTests (predicate : Option Expr) (tests : List ColumnTest) : Type 0 where
  pub rows : (rows : List Row) → filter (meets_all tests) rows ≡ tested_rows predicate rows
  pub none : predicate ≡ None → tests ≡ []

-- the columns hold what is made of rows of so many values
pub record AreColumns (width : ℕ) (items : Option (List Expr)) (columns : List ℕ) : Type 0 where
  pub rows : (rows : List Row) → AreWide width rows → map (λ row. columns_of row columns) rows ≡ made_rows items rows

pub record IsRequest (width : ℕ) (chain : Chain) (request : ScanRequest) : Type 0 where
  pub rows : (rows : List Row) → AreWide width rows → scanned request rows ≡ chain_rows chain rows
  pub none : chain.predicate ≡ None → HasNoTests request

-- a test and items that an adapter takes
pub record CanRequest (chain : Chain) : Type 0 where
  pub tests : IfSome chain.predicate (λ e. IsTrue (is_tests e))
  pub items : IfSome chain.items (λ es. IsTrue (are_different es))

-- the table is there, of as many columns as the schema says, and files are read without tests
pub record CanRead (schema : Schema) (parts : Parts) (chain : Chain) : Type 0 where
  pub there : IsSome (rows_of parts (Table chain.table))
  pub wide : AreWide (table_width schema chain.table) (rows_in parts chain.table)
  pub request : CanRequest chain
  pub untested : IsTrue chain.csv → chain.predicate ≡ None

-- ---- tiles

-- the tile that a node reads, where it reads one
abbrev pub tile_in : PlanNode → Option ℕ
tile_in (MemScan table) = None
tile_in (CsvScan table) = None
tile_in (TileRead tile) = Some tile
tile_in (MemFilter predicate) = None
tile_in (MemProject items) = None
tile_in (CsvProject items) = None
tile_in ToEnumerable = None
tile_in (Filter predicate) = None
tile_in (Project items) = None
tile_in (NestedLoopJoin kind on) = None
tile_in (HashJoin kind on) = None
tile_in (MergeJoin on) = None
tile_in (HashAggregate groups calls) = None
tile_in (SortedAggregate groups calls) = None
tile_in (EmptyRows types) = None
tile_in (Sort keys) = None

-- the rows of the tile of this instance
abbrev pub rows_held : Parts → ℕ → List Row
rows_held parts instance = unwrap_or (rows_of parts (Tile instance)) []
