-- Passes over a table: their loop over its rows, and the plans that they are.
use Rattle.std.proofs.Common.{◌≡◌, ℕ, ◌+◌, ◌<◌, Bool, true, false, cond, IsTrue, List, [], ◌∷◌, ◌++◌, map, filter, length, drop, All, append_assoc, Option, Some, None, refl, sym, ◌∙◌, ap, subst, arith}
use Rattle.std.specs.Prelude.{is_some}
use Rattle.std.proofs.lemmas.List.{map-id}
use Rattle.std.proofs.lemmas.List.Elements.{All-nil, All-cons, All-head, All-tail}
use Rattle.std.proofs.lemmas.Option.{same_Some, slice_get-get_or}
use Rattle.cal_expr.specs.declared.expr.Expr.{Expr}
use Rattle.cal_expr.specs.WellFormed as expressions
use Rattle.cal_schema.specs.declared.database.Db.{Db}
use Rattle.cal_schema.specs.declared.schema.Schema.{Schema}
use Rattle.cal_rel.specs.Info.{Info}
use Rattle.cal_rel.specs.Operators.{Row, holds, projected}
use Rattle.cal_rel.specs.Tiles.{table_rows}
use Rattle.cal_snapshot.specs.declared.part.Part.TheVariants.{Table}
use Rattle.cal_snapshot.specs.Parts.{Parts, row_at, rows_in}
use Rattle.cal_snapshot.proofs.Rows.{from-place, row-in}
use Rattle.plan_nodes.specs.declared.nodes.PlanNode.{PlanNode}
use Rattle.plan_nodes.specs.declared.nodes.PlanNode.TheVariants.{MemScan, CsvScan, ToEnumerable, Filter, Project}
use Rattle.plan_nodes.specs.declared.plan.Plan.{Plan, out-Plan}
use Rattle.plan_nodes.specs.PlanTrees.{PlanTree, nothing, plan, tree_reads}
use Rattle.plan_nodes.specs.Seen.{plan_tree}
use Rattle.plan_nodes.proofs.PlanLemmas.{IsTreeOver, over_nothing, over_first, over_both, tree-over, reads-tree}
use Rattle.phys_plan.specs.declared.ways.Want.TheVariants.{Rows}
use Rattle.phys_plan.specs.Ways.{fits}
use Rattle.plan_meaning.specs.Bags.{plan_bag}
use Rattle.plan_meaning.specs.WellFormed.{IsWellFormed}
use Rattle.plan_scans.specs.Scans.{info_over, tables_of}
use Rattle.row_exec.specs.Nodes.{IsMade}
use Rattle.row_exec.specs.Passes.{IsPass, Pass, keeps, made_of, passed, whole}
use Rattle.row_exec.specs.Ready.{CanRunOne}
use Rattle.row_exec.specs.Run.{CanRun, IsRun}
use Rattle.row_exec.proofs.Runs.{RunsOne, runs-one, scanned-run}

-- ---- a loop over rows

-- a row of the table of one pass is one of the table of the same pass
pub row-of_pass : (parts : Parts) (opened pass : Pass) (at : ℕ) (row : Row) → opened ≡ pass → row_at parts (Table opened.table) at ≡ Some row → row_at parts (Table pass.table) at ≡ Some row
row-of_pass parts opened pass at row e there = ap (λ (p : Pass). row_at parts (Table p.table) at) (sym e) ∙ there

passed-cons : (pass : Pass) (row : Row) (rest : List Row) → passed pass (row ∷ rest) ≡ passed pass (row ∷ []) ++ passed pass rest
passed-cons pass row rest = by (keeps pass.condition row)
  where
    by : (b : Bool) → map (made_of pass.items) (cond b (row ∷ filter (keeps pass.condition) rest) (filter (keeps pass.condition) rest))
        ≡ map (made_of pass.items) (cond b (row ∷ []) []) ++ passed pass rest
    by true = refl
    by false = refl

-- what is made so far and of the row is all but what is made of the rows after it
pub rows-turn : (parts : Parts) (pass : Pass) (table at : ℕ) (made : List Row) (row : Row) → row_at parts (Table table) at ≡ Some row
    → (made ++ passed pass (row ∷ [])) ++ passed pass (drop (at + 1) (rows_in parts table)) ≡ made ++ passed pass (drop at (rows_in parts table))
rows-turn parts pass table at made row e =
    append_assoc made (passed pass (row ∷ [])) (passed pass (drop (at + 1) (rows_in parts table)))
    ∙ ap (λ (rs : List Row). made ++ rs) (sym (passed-cons pass row (drop (at + 1) (rows_in parts table))))
    ∙ ap (λ (rs : List Row). made ++ passed pass rs) (sym (from-place (rows_in parts table) at row (row-in parts table at row e)))

-- ---- what is kept

kept-whole : (rows : List Row) → filter (keeps None) rows ≡ rows
kept-whole [] = refl
kept-whole (row ∷ rows) = ap (λ rs. row ∷ rs) (kept-whole rows)

passed-whole : (table : ℕ) (rows : List Row) → passed (whole table) rows ≡ rows
passed-whole table rows = map-id (filter (keeps None) rows) ∙ kept-whole rows

-- where no items are made, what is kept is made
passed-kept : (pass : Pass) (rows : List Row) → pass.items ≡ None → passed pass rows ≡ filter (keeps pass.condition) rows
passed-kept pass rows none = ap (λ (items : Option (List Expr)). map (made_of items) (filter (keeps pass.condition) rows)) none ∙ map-id (filter (keeps pass.condition) rows)

-- what holds of each row that is kept holds of each row where it is kept
where-kept : (test : Row → Bool) (P : Row → Type 0) (rows : List Row) → All P (filter test rows) → All (λ row. IsTrue (test row) → P row) rows
where-kept test P [] all = All-nil (λ row. IsTrue (test row) → P row)
where-kept test P (row ∷ rows) all = by (test row) refl all (where-kept test P rows)
  where
    by : (b : Bool) → test row ≡ b → All P (cond b (row ∷ filter test rows) (filter test rows)) → (All P (filter test rows) → All (λ row. IsTrue (test row) → P row) rows)
        → All (λ row. IsTrue (test row) → P row) (row ∷ rows)
    by true e all rest = All-cons (λ row. IsTrue (test row) → P row) row rows (λ _. All-head P row (filter test rows) all) (rest (All-tail P row (filter test rows) all))
    by false e all rest = All-cons (λ row. IsTrue (test row) → P row) row rows (λ h. absurd (cc)) (rest all)

-- ---- scans

-- as a tree, one that reads the table, which is there
record IsScan (info : Info) (db : Db) (table : ℕ) (tree : PlanTree) : Type 0 where
  rows : plan_bag info db tree ≡ table_rows db table
  counts : tree_reads tree ≡ length (table_rows db table)
  held : table < length db.tables

leaf-reads : (part n : ℕ) (a b : PlanTree) → a ≡ nothing → b ≡ nothing → part ≡ n → part + tree_reads a + tree_reads b ≡ n
leaf-reads part n a b first second e =
    let none : tree_reads a ≡ 0 = ap tree_reads first in
    let none_second : tree_reads b ≡ 0 = ap tree_reads second in
    omega arith

-- the node is a scan of the table, over whatever tables there are
record Scans (table : ℕ) (node : PlanNode) : Type 0 where
  kind : fits Rows node ≡ false
  each : (info : Info) (db : Db) (n part : ℕ) (a b : PlanTree) → IsWellFormed info db (plan node n part a b) → IsScan info db table (plan node n part a b)

mem-scans : (table : ℕ) → Scans table (MemScan table)
mem-scans table = record {
  kind = refl;
  each = λ info db n part a b formed. record {
    rows = refl;
    counts = leaf-reads part (length (table_rows db table)) a b formed.0.inputs.first formed.0.inputs.second formed.0.reads.rows;
    held = formed.0.reads.held;
  };
}

csv-scans : (table : ℕ) → Scans table (CsvScan table)
csv-scans table = record {
  kind = refl;
  each = λ info db n part a b formed. record {
    rows = refl;
    counts = leaf-reads part (length (table_rows db table)) a b formed.0.inputs.first formed.0.inputs.second formed.0.reads.rows;
    held = formed.0.reads.held;
  };
}

module _ (table : ℕ) (p : Plan) (scans : Scans table (out-Plan p).node) where
  scan-tree : (schema : Schema) (parts : Parts) (h : CanRun schema parts p) → IsScan (info_over schema parts) (tables_of parts) table h.tree
  scan-tree schema parts h = at_inputs (map plan_tree (out-Plan p).inputs) (tree-over p h.tree h.is)
    where
      over : (a b : PlanTree) → h.tree ≡ plan (out-Plan p).node (out-Plan p).rows (out-Plan p).part_rows a b → IsScan (info_over schema parts) (tables_of parts) table h.tree
      over a b is =
          subst (IsScan (info_over schema parts) (tables_of parts) table) (sym is)
          (scans.each (info_over schema parts) (tables_of parts) (out-Plan p).rows (out-Plan p).part_rows a b (subst (IsWellFormed (info_over schema parts) (tables_of parts)) is h.formed))

      at_inputs : (xs : List (Option PlanTree)) → IsTreeOver (out-Plan p).node (out-Plan p).rows (out-Plan p).part_rows h.tree xs → IsScan (info_over schema parts) (tables_of parts) table h.tree
      at_inputs _ (over_nothing is) = over nothing nothing is
      at_inputs _ (over_first a is) = over a nothing is
      at_inputs _ (over_both a b is) = over a b is

  scan-pass : IsPass p (whole table)
  scan-pass = record {
    can = λ schema parts h. record {
      there = ap is_some (slice_get-get_or parts.tables table [] (scan-tree schema parts h).held);
      ready = λ k d l. record { tested = tt; computed = λ _. tt };
    };
    makes = λ schema parts h.
        scanned-run schema parts p (passed (whole table) (rows_in parts table)) h scans.kind
        (record {
          of = λ tree is.
              passed-whole table (rows_in parts table) ∙ sym (scan-tree schema parts h).rows
              ∙ ap (plan_bag (info_over schema parts) (tables_of parts)) (same_Some h.tree tree (sym h.is ∙ is));
        });
    counts = λ schema parts h. reads-tree h.tree p h.is ∙ (scan-tree schema parts h).counts;
  }

pub pass-MemScan : (p : Plan) (table : ℕ) → (out-Plan p).node ≡ MemScan table → IsPass p (whole table)
pass-MemScan p table e = scan-pass table p (subst (Scans table) (sym e) (mem-scans table))

pub pass-CsvScan : (p : Plan) (table : ℕ) → (out-Plan p).node ≡ CsvScan table → IsPass p (whole table)
pass-CsvScan p table e = scan-pass table p (subst (Scans table) (sym e) (csv-scans table))

-- ---- nodes above the scan

-- what is said of a node over one input, where the plan can be run
over-input : (schema : Schema) (parts : Parts) (p a : Plan) (node : PlanNode) → (out-Plan p).node ≡ node → fits Rows node ≡ true → (out-Plan p).inputs ≡ a ∷ [] → CanRun schema parts p → RunsOne schema parts p a
over-input schema parts p a node e f one h = runs-one schema parts p a h (ap (fits Rows) e ∙ f) one

made-by : (schema : Schema) (parts : Parts) (p a : Plan) (node : PlanNode) (rows made : List Row) → (out-Plan p).node ≡ node → RunsOne schema parts p a → IsRun schema parts a rows → IsMade node 0 rows [] made
    → IsRun schema parts p made
made-by schema parts p a node rows made e run is step = run.made rows made is (subst (λ (n : PlanNode). IsMade n 0 rows [] made) (sym e) step)

pub pass-ToEnumerable : (p a : Plan) (pass : Pass) → (out-Plan p).node ≡ ToEnumerable → (out-Plan p).inputs ≡ a ∷ [] → IsPass a pass → IsPass p pass
pass-ToEnumerable p a pass e one below = record {
  can = λ schema parts h. below.can schema parts (over-input schema parts p a ToEnumerable e refl one h).input;
  makes = λ schema parts h.
      let run = over-input schema parts p a ToEnumerable e refl one h in
      let rows : List Row = passed pass (rows_in parts pass.table) in
      made-by schema parts p a ToEnumerable rows rows e run (below.makes schema parts run.input) (λ info db. refl);
  counts = λ schema parts h.
      let run = over-input schema parts p a ToEnumerable e refl one h in
      run.counts ∙ below.counts schema parts run.input;
}

-- the rows of the whole table are those of the plan that is its scan
whole-run : (schema : Schema) (parts : Parts) (a : Plan) (table : ℕ) → IsPass a (whole table) → CanRun schema parts a → IsRun schema parts a (rows_in parts table)
whole-run schema parts a table below h = subst (IsRun schema parts a) (passed-whole table (rows_in parts table)) (below.makes schema parts h)

abbrev pub filter_of : ℕ → Expr → Pass
filter_of table predicate = record { table = table; condition = Some predicate; items = None }

pub pass-Filter : (p a : Plan) (table : ℕ) (predicate : Expr) → (out-Plan p).node ≡ Filter predicate → (out-Plan p).inputs ≡ a ∷ [] → IsPass a (whole table) → IsPass p (filter_of table predicate)
pass-Filter p a table predicate e one below = record {
  can = λ schema parts h.
      let run = over-input schema parts p a (Filter predicate) e refl one h in
      let ready : All (λ row. expressions.IsWellFormed predicate row) (rows_in parts table) =
      subst (λ (n : PlanNode). CanRunOne n (rows_in parts table)) e (run.ready (rows_in parts table) (whole-run schema parts a table below run.input)) in
      record {
        there = (below.can schema parts run.input).there;
        ready = λ k d l. record { tested = ready k d l; computed = λ _. tt };
      };
  makes = λ schema parts h.
      let run = over-input schema parts p a (Filter predicate) e refl one h in
      let rows : List Row = rows_in parts table in
      subst (IsRun schema parts p) (sym (passed-kept (filter_of table predicate) rows refl))
      (made-by schema parts p a (Filter predicate) rows (filter (holds predicate) rows) e run (whole-run schema parts a table below run.input) (λ info db. refl));
  counts = λ schema parts h.
      let run = over-input schema parts p a (Filter predicate) e refl one h in
      run.counts ∙ below.counts schema parts run.input;
}

-- what is kept are the rows of the plan that makes no items
kept-run : (schema : Schema) (parts : Parts) (a : Plan) (pass : Pass) → IsPass a pass → pass.items ≡ None → CanRun schema parts a
    → IsRun schema parts a (filter (keeps pass.condition) (rows_in parts pass.table))
kept-run schema parts a pass below none h = subst (IsRun schema parts a) (passed-kept pass (rows_in parts pass.table) none) (below.makes schema parts h)

abbrev pub project_of : Pass → List Expr → Pass
project_of below items = record { table = below.table; condition = below.condition; items = Some items }

pub pass-Project : (p a : Plan) (below : Pass) (items : List Expr) → (out-Plan p).node ≡ Project items → (out-Plan p).inputs ≡ a ∷ [] → below.items ≡ None → IsPass a below
    → IsPass p (project_of below items)
pass-Project p a below items e one none pass = record {
  can = λ schema parts h.
      let run = over-input schema parts p a (Project items) e refl one h in
      let kept : List Row = filter (keeps below.condition) (rows_in parts below.table) in
      let ready : All (λ row. All (λ x. expressions.IsWellFormed x row) items) kept =
      subst (λ (n : PlanNode). CanRunOne n kept) e (run.ready kept (kept-run schema parts a below pass none run.input)) in
      let each = where-kept (keeps below.condition) (λ row. All (λ x. expressions.IsWellFormed x row) items) (rows_in parts below.table) ready in
      let first = pass.can schema parts run.input in
      record {
        there = first.there;
        ready = λ k d l. record { tested = (first.ready k d l).tested; computed = each k d l };
      };
  makes = λ schema parts h.
      let run = over-input schema parts p a (Project items) e refl one h in
      let kept : List Row = filter (keeps below.condition) (rows_in parts below.table) in
      made-by schema parts p a (Project items) kept (map (projected items) kept) e run (kept-run schema parts a below pass none run.input) (λ info db. refl);
  counts = λ schema parts h.
      let run = over-input schema parts p a (Project items) e refl one h in
      run.counts ∙ pass.counts schema parts run.input;
}
