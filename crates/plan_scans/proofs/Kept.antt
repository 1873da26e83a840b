-- A well-formed plan whose root hands on rows of a table or of a tile is one scan of it.
use Rattle.std.proofs.Common.{◌≡◌, ℕ, ◌+◌, ◌<◌, Bool, true, false, IsTrue, List, [], length, map, filter, Option, Some, None, refl, sym, ◌∙◌, ap, subst, arith, slice_get}
use Rattle.std.specs.Prelude.{IfSome, option_map, unwrap_or}
use Rattle.std.proofs.lemmas.List.{length-map}
use Rattle.std.proofs.lemmas.List.Elements.{All-weaker}
use Rattle.std.proofs.lemmas.Option.{same_Some}
use Rattle.cal_value.specs.Types.{HasTypes}
use Rattle.cal_expr.specs.declared.expr.Expr.{Expr}
use Rattle.cal_schema.specs.declared.database.Db.{Db}
use Rattle.cal_schema.specs.declared.rel_type.RelType.{RelType}
use Rattle.cal_schema.specs.declared.table.TableDef.{TableDef}
use Rattle.cal_schema.specs.declared.tile.TileInfo.{TileInfo}
use Rattle.cal_schema.specs.RelType.{IsTrueOf}
use Rattle.cal_rel.specs.Bag.{table_width, rows_of_tile}
use Rattle.cal_rel.specs.Info.{Info}
use Rattle.cal_rel.specs.Operators.{holds, projected}
use Rattle.cal_rel.specs.Tiles.{table_rows}
use Rattle.cal_rel.specs.Tree.{scan}
use Rattle.cal_rel.specs.Typing.{leaf_type, table_type}
use Rattle.cal_rel.proofs.RowLemmas.{types-length}
use Rattle.plan_nodes.specs.declared.nodes.PlanNode.TheVariants.{MemScan, CsvScan, TileRead, MemFilter, MemProject, CsvProject}
use Rattle.plan_nodes.specs.Orders.{tile_of}
use Rattle.plan_nodes.specs.PlanTrees.{PlanTree, nothing, plan, tree_reads}
use Rattle.phys_plan.specs.declared.ways.Want.TheVariants.{MemScanned, MemFiltered, CsvScanned}
use Rattle.phys_plan.specs.Ways.{is_tests, are_different}
use Rattle.plan_meaning.specs.Bags.{plan_bag}
use Rattle.plan_meaning.specs.WellFormed.{root_fits, IsKept, IsWellFormed}
use Rattle.plan_scans.specs.Chains.{Chain, chain_of, tested, made, tested_rows, made_rows, chain_rows, AreWide, CanRequest, tile_in}

abbrev pub chain : Bool → Option Expr → Option (List Expr) → ℕ → Chain
chain csv predicate items table = record { table = table; csv = csv; predicate = predicate; items = items }

-- ---- the rows of a table

wide-rows : (info : Info) (db : Db) (table : ℕ) (own : RelType) → IsTrueOf own (table_rows db table) → leaf_type info (scan table) ≡ Some own
    → AreWide (table_width info.schema table) (table_rows db table)
wide-rows info db table own true_of typed =
    let columns = of_table (slice_get info.schema.tables table) typed in
    All-weaker (λ row. HasTypes row own.columns) (λ row. length row ≡ table_width info.schema table) (λ row h. types-length row own.columns h ∙ columns) (table_rows db table) true_of.typed
  where
    of_table : (o : Option TableDef) → option_map table_type o ≡ Some own → length own.columns ≡ unwrap_or (option_map (λ (t : TableDef). length t.columns) o) 0
    of_table None e = absurd (Prim.cc)
    of_table (Some def) e = ap (λ (t : RelType). length t.columns) (sym (same_Some (table_type def) own e)) ∙ length-map def.columns (λ c. c.kind)

-- one scan of a table, with such a test and such items
record IsScan (info : Info) (db : Db) (csv : Bool) (predicate : Option Expr) (items : Option (List Expr)) (tree : PlanTree) : Type 0 where
  table : ℕ
  is : chain_of tree ≡ Some (chain csv predicate items table)
  rows : plan_bag info db tree ≡ made_rows items (tested_rows predicate (table_rows db table))
  reads : tree_reads tree ≡ length (table_rows db table)
  held : table < length db.tables
  wide : AreWide (table_width info.schema table) (table_rows db table)

no-reads : (a : PlanTree) → a ≡ nothing → tree_reads a ≡ 0
no-reads a e = ap tree_reads e

leaf-reads : (part n : ℕ) (a b : PlanTree) → a ≡ nothing → b ≡ nothing → part ≡ n → part + tree_reads a + tree_reads b ≡ n
leaf-reads part n a b first second e = omega (arith, no-reads a first, no-reads b second)

over-reads : (part n : ℕ) (a b : PlanTree) → tree_reads a ≡ n → b ≡ nothing → part ≡ 0 → part + tree_reads a + tree_reads b ≡ n
over-reads part n a b first second e = omega (arith, no-reads b second)

-- ---- tables in memory

mem-scan : (info : Info) (db : Db) (tree : PlanTree) → IsTrue (root_fits MemScanned tree) → IsWellFormed info db tree → IsScan info db false None None tree
mem-scan info db nothing fits formed = absurd (cc)
mem-scan info db (plan (MemScan table) rows part a b) fits formed = record {
  table = table;
  is = refl;
  rows = refl;
  reads = leaf-reads part (length (table_rows db table)) a b formed.0.inputs.first formed.0.inputs.second formed.0.reads.rows;
  held = formed.0.reads.held;
  wide = wide-rows info db table formed.0.types.own formed.0.types.own_is formed.0.types.typed;
}
mem-scan info db (plan node rows part a b) fits formed = absurd (cc)

record IsFiltered (info : Info) (db : Db) (tree : PlanTree) : Type 0 where
  predicate : Option Expr
  tests : IfSome predicate (λ e. IsTrue (is_tests e))
  whole : IsScan info db false predicate None tree

mem-filter : (info : Info) (db : Db) (predicate : Expr) (rows part : ℕ) (a b : PlanTree) → IsWellFormed info db (plan (MemFilter predicate) rows part a b)
    → IsScan info db false (Some predicate) None (plan (MemFilter predicate) rows part a b)
mem-filter info db predicate rows part a b formed =
    let below = mem-scan info db a formed.0.inputs.first.kind formed.1 in
    record {
      table = below.table;
      is = ap (option_map (tested predicate)) below.is;
      rows = ap (filter (holds predicate)) below.rows;
      reads = over-reads part (length (table_rows db below.table)) a b below.reads formed.0.inputs.second formed.0.reads;
      held = below.held;
      wide = below.wide;
    }

mem-filtered : (info : Info) (db : Db) (tree : PlanTree) → IsTrue (root_fits MemFiltered tree) → IsWellFormed info db tree → IsFiltered info db tree
mem-filtered info db nothing fits formed = absurd (cc)
mem-filtered info db (plan (MemScan table) rows part a b) fits formed = record { predicate = None; tests = tt; whole = mem-scan info db (plan (MemScan table) rows part a b) refl formed }
mem-filtered info db (plan (MemFilter predicate) rows part a b) fits formed = record { predicate = Some predicate; tests = formed.0.form; whole = mem-filter info db predicate rows part a b formed }
mem-filtered info db (plan node rows part a b) fits formed = absurd (cc)

-- ---- tables of files

csv-scan : (info : Info) (db : Db) (tree : PlanTree) → IsTrue (root_fits CsvScanned tree) → IsWellFormed info db tree → IsScan info db true None None tree
csv-scan info db nothing fits formed = absurd (cc)
csv-scan info db (plan (CsvScan table) rows part a b) fits formed = record {
  table = table;
  is = refl;
  rows = refl;
  reads = leaf-reads part (length (table_rows db table)) a b formed.0.inputs.first formed.0.inputs.second formed.0.reads.rows;
  held = formed.0.reads.held;
  wide = wide-rows info db table formed.0.types.own formed.0.types.own_is formed.0.types.typed;
}
csv-scan info db (plan node rows part a b) fits formed = absurd (cc)

-- ---- all of them

-- one scan of a table that its adapter takes
pub record IsTableScan (info : Info) (db : Db) (tree : PlanTree) : Type 0 where
  pub chain : Chain
  pub is : chain_of tree ≡ Some chain
  pub rows : plan_bag info db tree ≡ chain_rows chain (table_rows db chain.table)
  pub reads : tree_reads tree ≡ length (table_rows db chain.table)
  pub held : chain.table < length db.tables
  pub wide : AreWide (table_width info.schema chain.table) (table_rows db chain.table)
  pub request : CanRequest chain
  pub untested : IsTrue chain.csv → chain.predicate ≡ None

abbrev untested_by : Bool → Option Expr → Type 0
untested_by csv predicate = IsTrue csv → predicate ≡ None

table-scan : (info : Info) (db : Db) (csv : Bool) (predicate : Option Expr) (items : Option (List Expr)) (tree : PlanTree) → IsScan info db csv predicate items tree
    → IfSome predicate (λ e. IsTrue (is_tests e)) → IfSome items (λ es. IsTrue (are_different es)) → untested_by csv predicate → IsTableScan info db tree
table-scan info db csv predicate items tree h tests different untested = record {
  chain = chain csv predicate items h.table;
  is = h.is;
  rows = h.rows;
  reads = h.reads;
  held = h.held;
  wide = h.wide;
  request = record { tests = tests; items = different };
  untested = untested;
}

in-memory : (predicate : Option Expr) → untested_by false predicate
in-memory predicate h = absurd (cc)

mem-project : (info : Info) (db : Db) (items : List Expr) (rows part : ℕ) (a b : PlanTree) → IsWellFormed info db (plan (MemProject items) rows part a b)
    → IsTableScan info db (plan (MemProject items) rows part a b)
mem-project info db items rows part a b formed =
    let below = mem-filtered info db a formed.0.inputs.first.kind formed.1 in
    table-scan info db false below.predicate (Some items) (plan (MemProject items) rows part a b)
    (record {
      table = below.whole.table;
      is = ap (option_map (made items)) below.whole.is;
      rows = ap (map (projected items)) below.whole.rows;
      reads = over-reads part (length (table_rows db below.whole.table)) a b below.whole.reads formed.0.inputs.second formed.0.reads;
      held = below.whole.held;
      wide = below.whole.wide;
    }) below.tests formed.0.form (in-memory below.predicate)

csv-project : (info : Info) (db : Db) (items : List Expr) (rows part : ℕ) (a b : PlanTree) → IsWellFormed info db (plan (CsvProject items) rows part a b)
    → IsTableScan info db (plan (CsvProject items) rows part a b)
csv-project info db items rows part a b formed =
    let below = csv-scan info db a formed.0.inputs.first.kind formed.1 in
    table-scan info db true None (Some items) (plan (CsvProject items) rows part a b)
    (record {
      table = below.table;
      is = ap (option_map (made items)) below.is;
      rows = ap (map (projected items)) below.rows;
      reads = over-reads part (length (table_rows db below.table)) a b below.reads formed.0.inputs.second formed.0.reads;
      held = below.held;
      wide = below.wide;
    }) tt formed.0.form (λ _. refl)

-- the tile that a root reads, where it reads one
abbrev pub root_tile : PlanTree → Option ℕ
root_tile nothing = None
root_tile (plan node rows part a b) = tile_in node

pub kept-table : (info : Info) (db : Db) (tree : PlanTree) → IsKept tree → root_tile tree ≡ None → IsWellFormed info db tree → IsTableScan info db tree
kept-table info db nothing kept none formed = absurd (let h = kept.kind in cc)
kept-table info db (plan (MemScan table) rows part a b) kept none formed =
    table-scan info db false None None (plan (MemScan table) rows part a b) (mem-scan info db (plan (MemScan table) rows part a b) refl formed) tt tt (λ _. refl)
kept-table info db (plan (CsvScan table) rows part a b) kept none formed =
    table-scan info db true None None (plan (CsvScan table) rows part a b) (csv-scan info db (plan (CsvScan table) rows part a b) refl formed) tt tt (λ _. refl)
kept-table info db (plan (MemFilter predicate) rows part a b) kept none formed =
    table-scan info db false (Some predicate) None (plan (MemFilter predicate) rows part a b) (mem-filter info db predicate rows part a b formed) formed.0.form tt (in-memory (Some predicate))
kept-table info db (plan (MemProject items) rows part a b) kept none formed = mem-project info db items rows part a b formed
kept-table info db (plan (CsvProject items) rows part a b) kept none formed = csv-project info db items rows part a b formed
kept-table info db (plan (TileRead tile) rows part a b) kept none formed = absurd (cc)
kept-table info db (plan node rows part a b) kept none formed = absurd (let h = kept.kind in cc)

-- ---- tiles

-- all rows of this tile
pub record IsTileScan (info : Info) (db : Db) (instance : ℕ) (tree : PlanTree) : Type 0 where
  pub tile : TileInfo
  pub there : tile_of info.tiles instance ≡ Some tile
  pub rows : plan_bag info db tree ≡ rows_of_tile info db tile.key
  pub reads : tree_reads tree ≡ length (rows_of_tile info db tile.key)

tile-read : (info : Info) (db : Db) (tile rows part : ℕ) (a b : PlanTree) → IsWellFormed info db (plan (TileRead tile) rows part a b)
    → IsTileScan info db tile (plan (TileRead tile) rows part a b)
tile-read info db tile rows part a b formed =
    let r = formed.0.reads in
    record {
      tile = r.tile;
      there = r.there;
      rows = ap (λ o. unwrap_or (option_map (λ (t : TileInfo). rows_of_tile info db t.key) o) []) r.there;
      reads = leaf-reads part (length (rows_of_tile info db r.tile.key)) a b formed.0.inputs.first formed.0.inputs.second r.rows;
    }

pub kept-tile : (info : Info) (db : Db) (tree : PlanTree) (instance : ℕ) → root_tile tree ≡ Some instance → IsWellFormed info db tree → IsTileScan info db instance tree
kept-tile info db nothing instance some formed = absurd (cc)
kept-tile info db (plan (TileRead tile) rows part a b) instance some formed =
    subst (λ n. IsTileScan info db n (plan (TileRead tile) rows part a b)) (same_Some tile instance some) (tile-read info db tile rows part a b formed)
kept-tile info db (plan node rows part a b) instance some formed = absurd (cc)
