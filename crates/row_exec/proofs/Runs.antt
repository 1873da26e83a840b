-- A plan is run as its root over the rows of its inputs.
use Rattle.std.proofs.Common.{◌≡◌, ◌≢◌, ℕ, ◌+◌, true, false, List, [], ◌∷◌, map, Option, Some, refl, sym, ◌∙◌, ap, subst, arith}
use Rattle.std.specs.Prelude.{count_by}
use Rattle.std.proofs.lemmas.Option.{same_Some}
use Rattle.cal_value.specs.declared.order.KeyOrder.{KeyOrder}
use Rattle.cal_value.specs.Equal.{row_eq}
use Rattle.cal_value.specs.Order.{IsInOrder, SameBag}
use Rattle.cal_value.proofs.BagLemmas.{count_by-IsPermutation}
use Rattle.cal_schema.specs.declared.database.Db.{Db}
use Rattle.cal_expr.specs.declared.expr.Expr.{Expr}
use Rattle.cal_schema.specs.declared.join_kind.JoinKind.{JoinKind}
use Rattle.cal_schema.specs.declared.join_kind.JoinKind.TheVariants.{Inner}
use Rattle.cal_schema.specs.declared.schema.Schema.{Schema}
use Rattle.cal_schema.specs.RelType.{IsTrueOf}
use Rattle.cal_rel.specs.Info.{Info}
use Rattle.cal_rel.specs.Operators.{Row}
use Rattle.cal_rel.specs.Typing.{join_type}
use Rattle.cal_rel.proofs.Totals.{Weighs-from_SameBag, SameBag-from_Weighs}
use Rattle.cal_snapshot.specs.Parts.{Parts}
use Rattle.plan_nodes.specs.declared.nodes.PlanNode.{PlanNode}
use Rattle.plan_nodes.specs.declared.nodes.PlanNode.TheVariants.{MemScan, CsvScan, TileRead, MemFilter, MemProject, CsvProject, ToEnumerable, Filter, Project, NestedLoopJoin, HashJoin, MergeJoin, HashAggregate, SortedAggregate, EmptyRows, Sort}
use Rattle.plan_nodes.specs.declared.plan.Plan.{Plan, out-Plan}
use Rattle.plan_nodes.specs.Orders.{left_order, right_order, ascending_by}
use Rattle.plan_nodes.specs.PlanTrees.{PlanTree, nothing, plan, plan_width, order_of, tree_reads}
use Rattle.plan_nodes.specs.Seen.{plan_tree, reads}
use Rattle.plan_nodes.proofs.PlanLemmas.{IsTreeOver, over_nothing, over_first, over_both, tree-over, over-none, over-one, over-two, reads-tree}
use Rattle.phys_plan.specs.declared.ways.Want.TheVariants.{Rows}
use Rattle.phys_plan.specs.Ways.{fits}
use Rattle.plan_meaning.specs.Bags.{node_bag, plan_bag}
use Rattle.plan_meaning.specs.WellFormed.{IsKept, IsWellFormed, IsWellFormedNode, Reads, unkeyed}
use Rattle.plan_meaning.proofs.Nodes.{node-same}
use Rattle.plan_orders.specs.Ordered.{IsNoSort}
use Rattle.plan_orders.proofs.Nodes.{kept-sorted, made-order}
use Rattle.plan_orders.proofs.UpTo.{in-none, prefix-order}
use Rattle.plan_scans.specs.Scans.{info_over, tables_of, AreScanned, CanScan}
use Rattle.row_exec.specs.Nodes.{AreSortedBy, HasWidth, IsMade}
use Rattle.row_exec.specs.Ready.{CanJoinOn, CanRunOne, CanRunTwo}
use Rattle.row_exec.specs.Run.{AreRowsOf, CanRun, IsRun}
use Rattle.row_exec.proofs.Typed.{filter-ready, group-ready, join-ready, project-ready, true-of_run, wide-of_run}

-- ---- the tree of a plan is a plan

pub no-nothing : (p : Plan) → plan_tree p ≡ Some nothing → ⊥
no-nothing p e = at_inputs (map plan_tree (out-Plan p).inputs) (tree-over p nothing e)
  where
    at_inputs : (xs : List (Option PlanTree)) → IsTreeOver (out-Plan p).node (out-Plan p).rows (out-Plan p).part_rows nothing xs → ⊥
    at_inputs _ (over_nothing is) = Prim.cc
    at_inputs _ (over_first a is) = Prim.cc
    at_inputs _ (over_both a b is) = Prim.cc

there : (p : Plan) (tree : PlanTree) → plan_tree p ≡ Some tree → tree ≢ nothing
there p tree e none = no-nothing p (e ∙ ap Some none)

module _ (info : Info) (db : Db) where
  abbrev Formed : PlanNode → ℕ → PlanTree → PlanTree → Type 0
  Formed node part a b = IsWellFormedNode info db node part a b

  -- ---- of which nodes the rows are handed on

  pub kept-of : (node : PlanNode) (rows part : ℕ) (a b : PlanTree) → fits Rows node ≡ false → IsKept (plan node rows part a b)
  kept-of (MemScan table) rows part a b e = record { kind = refl }
  kept-of (CsvScan table) rows part a b e = record { kind = refl }
  kept-of (TileRead tile) rows part a b e = record { kind = refl }
  kept-of (MemFilter predicate) rows part a b e = record { kind = refl }
  kept-of (MemProject items) rows part a b e = record { kind = refl }
  kept-of (CsvProject items) rows part a b e = record { kind = refl }
  kept-of ToEnumerable rows part a b e = absurd (cc)
  kept-of (Filter predicate) rows part a b e = absurd (cc)
  kept-of (Project items) rows part a b e = absurd (cc)
  kept-of (NestedLoopJoin kind on) rows part a b e = absurd (cc)
  kept-of (HashJoin kind on) rows part a b e = absurd (cc)
  kept-of (MergeJoin on) rows part a b e = absurd (cc)
  kept-of (HashAggregate groups calls) rows part a b e = absurd (cc)
  kept-of (SortedAggregate groups calls) rows part a b e = absurd (cc)
  kept-of (EmptyRows types) rows part a b e = absurd (cc)
  kept-of (Sort keys) rows part a b e = absurd (cc)

  -- ---- the parts that nodes read

  no-part : (node : PlanNode) (part : ℕ) → fits Rows node ≡ true → Reads info db node part → part ≡ 0
  no-part (MemScan table) part e h = absurd (cc)
  no-part (CsvScan table) part e h = absurd (cc)
  no-part (TileRead tile) part e h = absurd (cc)
  no-part (MemFilter predicate) part e h = h
  no-part (MemProject items) part e h = h
  no-part (CsvProject items) part e h = h
  no-part ToEnumerable part e h = h
  no-part (Filter predicate) part e h = h
  no-part (Project items) part e h = h
  no-part (NestedLoopJoin kind on) part e h = h
  no-part (HashJoin kind on) part e h = h
  no-part (MergeJoin on) part e h = h
  no-part (HashAggregate groups calls) part e h = h
  no-part (SortedAggregate groups calls) part e h = h
  no-part (EmptyRows types) part e h = h
  no-part (Sort keys) part e h = h

  -- ---- what a node asks of the rows of its inputs

  module _ (part : ℕ) (a : PlanTree) (rows : List Row) (some : a ≢ nothing) (run : AreRowsOf info db a rows) where
    typed : (node : PlanNode) (h : Formed node part a nothing) → IsTrueOf h.types.left rows
    typed node h = true-of_run h.types.left (plan_width info a) (plan_bag info db a) rows h.types.left_is run.same

    one-ready : (node : PlanNode) → fits Rows node ≡ true → Formed node part a nothing → CanRunOne node rows
    one-ready (MemScan table) e h = absurd (cc)
    one-ready (CsvScan table) e h = absurd (cc)
    one-ready (TileRead tile) e h = absurd (cc)
    one-ready (MemFilter predicate) e h = absurd (cc)
    one-ready (MemProject items) e h = absurd (cc)
    one-ready (CsvProject items) e h = absurd (cc)
    one-ready ToEnumerable e h = tt
    one-ready (Filter predicate) e h = filter-ready predicate h.types.left h.types.own rows h.types.typed (typed (Filter predicate) h)
    one-ready (Project items) e h = project-ready items h.types.left h.types.own rows h.types.typed (typed (Project items) h)
    one-ready (NestedLoopJoin kind on) e h = let none = h.inputs.second.kind in absurd (cc)
    one-ready (HashJoin kind on) e h = let none = h.inputs.second.kind in absurd (cc)
    one-ready (MergeJoin on) e h = let none = h.inputs.second.kind in absurd (cc)
    one-ready (HashAggregate groups calls) e h = group-ready groups calls h.types.left h.types.own rows h.types.typed (typed (HashAggregate groups calls) h)
    one-ready (SortedAggregate groups calls) e h = record {
      typed = group-ready groups calls h.types.left h.types.own rows h.types.typed (typed (SortedAggregate groups calls) h);
      sorted = prefix-order (order_of info a) (ascending_by groups) rows h.inputs.first.sorted run.in_order;
    }
    one-ready (EmptyRows types) e h = absurd (some h.inputs.first)
    one-ready (Sort keys) e h = tt

  module _ (part : ℕ) (a b : PlanTree) (left right : List Row) (some : b ≢ nothing) (first : AreRowsOf info db a left) (second : AreRowsOf info db b right) where
    joins : (node : PlanNode) (h : Formed node part a b) → (kind : JoinKind) (on : Expr) → join_type kind on unkeyed h.types.left h.types.right ≡ Some h.types.own → CanJoinOn on (plan_width info a) left right
    joins node h kind on typed =
        join-ready kind on unkeyed (plan_width info a) h.types.left h.types.right h.types.own left right typed h.types.left_is.columns
        (true-of_run h.types.left (plan_width info a) (plan_bag info db a) left h.types.left_is first.same)
        (true-of_run h.types.right (plan_width info b) (plan_bag info db b) right h.types.right_is second.same)

    two-ready : (node : PlanNode) → fits Rows node ≡ true → Formed node part a b → CanRunTwo node (plan_width info a) left right
    two-ready (MemScan table) e h = absurd (cc)
    two-ready (CsvScan table) e h = absurd (cc)
    two-ready (TileRead tile) e h = absurd (cc)
    two-ready (MemFilter predicate) e h = absurd (cc)
    two-ready (MemProject items) e h = absurd (cc)
    two-ready (CsvProject items) e h = absurd (cc)
    two-ready ToEnumerable e h = absurd (some h.inputs.second)
    two-ready (Filter predicate) e h = absurd (some h.inputs.second)
    two-ready (Project items) e h = absurd (some h.inputs.second)
    two-ready (NestedLoopJoin kind on) e h = joins (NestedLoopJoin kind on) h kind on h.types.typed
    two-ready (HashJoin kind on) e h = joins (HashJoin kind on) h kind on h.types.typed
    two-ready (MergeJoin on) e h = record {
      joins = joins (MergeJoin on) h Inner on h.types.typed;
      left_sorted = prefix-order (order_of info a) (left_order (plan_width info a) on) left h.inputs.first.sorted first.in_order;
      right_sorted = prefix-order (order_of info b) (right_order (plan_width info a) on) right h.inputs.second.sorted second.in_order;
    }
    two-ready (HashAggregate groups calls) e h = absurd (some h.inputs.second)
    two-ready (SortedAggregate groups calls) e h = absurd (some h.inputs.second)
    two-ready (EmptyRows types) e h = absurd (some h.inputs.second)
    two-ready (Sort keys) e h = absurd (some h.inputs.second)

  -- ---- what a node makes of the rows of its inputs

  module _ (n part : ℕ) (a b : PlanTree) (left right made : List Row) (first : AreRowsOf info db a left) (second : AreRowsOf info db b right) where
    exact : (node : PlanNode) → IsNoSort node → IsWellFormed info db (plan node n part a b) → made ≡ node_bag info db node (plan_width info b) left right → AreRowsOf info db (plan node n part a b) made
    exact node plain h is = record {
      same = subst (λ rows. SameBag rows (plan_bag info db (plan node n part a b))) (sym is)
          (SameBag-from_Weighs (node_bag info db node (plan_width info b) left right) (plan_bag info db (plan node n part a b))
          (node-same info db node (plan_width info b) left (plan_bag info db a) right (plan_bag info db b)
          (Weighs-from_SameBag left (plan_bag info db a) first.same) (Weighs-from_SameBag right (plan_bag info db b) second.same)));
      in_order = subst (IsInOrder (order_of info (plan node n part a b))) (sym is)
          (made-order info db node n part a b left right h plain
          (record { wide = wide-of_run h.0.types.left (plan_width info a) (plan_bag info db a) left h.0.types.left_is first.same; sorted = first.in_order }));
    }

    sorted : (keys : List KeyOrder) → AreSortedBy keys left made → AreRowsOf info db (plan (Sort keys) n part a b) made
    sorted keys h = record { same = λ r. sym (count_by-IsPermutation (row_eq r) left made h.same) ∙ first.same r; in_order = h.in_order }

    rows-of_node : (node : PlanNode) → IsWellFormed info db (plan node n part a b) → IsMade node (plan_width info b) left right made → AreRowsOf info db (plan node n part a b) made
    rows-of_node (MemScan table) h is = exact (MemScan table) tt h (is info db)
    rows-of_node (CsvScan table) h is = exact (CsvScan table) tt h (is info db)
    rows-of_node (TileRead tile) h is = exact (TileRead tile) tt h (is info db)
    rows-of_node (MemFilter predicate) h is = exact (MemFilter predicate) tt h (is info db)
    rows-of_node (MemProject items) h is = exact (MemProject items) tt h (is info db)
    rows-of_node (CsvProject items) h is = exact (CsvProject items) tt h (is info db)
    rows-of_node ToEnumerable h is = exact ToEnumerable tt h (is info db)
    rows-of_node (Filter predicate) h is = exact (Filter predicate) tt h (is info db)
    rows-of_node (Project items) h is = exact (Project items) tt h (is info db)
    rows-of_node (NestedLoopJoin kind on) h is = exact (NestedLoopJoin kind on) tt h (is info db)
    rows-of_node (HashJoin kind on) h is = exact (HashJoin kind on) tt h (is info db)
    rows-of_node (MergeJoin on) h is = exact (MergeJoin on) tt h (is info db)
    rows-of_node (HashAggregate groups calls) h is = exact (HashAggregate groups calls) tt h (is info db)
    rows-of_node (SortedAggregate groups calls) h is = exact (SortedAggregate groups calls) tt h (is info db)
    rows-of_node (EmptyRows types) h is = exact (EmptyRows types) tt h (is info db)
    rows-of_node (Sort keys) h is = sorted keys is

  -- ---- rows of nothing

  of-nothing : AreRowsOf info db nothing []
  of-nothing = record { same = λ r. refl; in_order = in-none [] }

  none-made : (node : PlanNode) (n part : ℕ) → fits Rows node ≡ true → IsWellFormed info db (plan node n part nothing nothing) → AreRowsOf info db (plan node n part nothing nothing) []
  none-made (MemScan table) n part e h = absurd (cc)
  none-made (CsvScan table) n part e h = absurd (cc)
  none-made (TileRead tile) n part e h = absurd (cc)
  none-made (MemFilter predicate) n part e h = absurd (cc)
  none-made (MemProject items) n part e h = absurd (cc)
  none-made (CsvProject items) n part e h = absurd (cc)
  none-made ToEnumerable n part e h = let none = h.0.inputs.first.kind in absurd (cc)
  none-made (Filter predicate) n part e h = let none = h.0.inputs.first.kind in absurd (cc)
  none-made (Project items) n part e h = let none = h.0.inputs.first.kind in absurd (cc)
  none-made (NestedLoopJoin kind on) n part e h = let none = h.0.inputs.first.kind in absurd (cc)
  none-made (HashJoin kind on) n part e h = let none = h.0.inputs.first.kind in absurd (cc)
  none-made (MergeJoin on) n part e h = let none = h.0.inputs.first.kind in absurd (cc)
  none-made (HashAggregate groups calls) n part e h = let none = h.0.inputs.first.kind in absurd (cc)
  none-made (SortedAggregate groups calls) n part e h = let none = h.0.inputs.first.kind in absurd (cc)
  none-made (EmptyRows types) n part e h = record { same = λ r. refl; in_order = in-none [] }
  none-made (Sort keys) n part e h = let none = h.0.inputs.first.kind in absurd (cc)

-- ---- plans

module _ (schema : Schema) (parts : Parts) where
  abbrev info : Info
  info = info_over schema parts

  abbrev db : Db
  db = tables_of parts

  same-tree : (p : Plan) (t u : PlanTree) → plan_tree p ≡ Some t → plan_tree p ≡ Some u → t ≡ u
  same-tree p t u e f = same_Some t u (sym e ∙ f)

  -- the rows of one tree are those of the plan
  run-of : (p : Plan) (tree : PlanTree) (rows : List Row) → plan_tree p ≡ Some tree → AreRowsOf info db tree rows → IsRun schema parts p rows
  run-of p tree rows e h = record { of = λ t f. subst (λ u. AreRowsOf info db u rows) (same-tree p tree t e f) h }

  -- ---- scans

  root-kept : (p : Plan) (tree : PlanTree) → plan_tree p ≡ Some tree → fits Rows (out-Plan p).node ≡ false → IsKept tree
  root-kept p tree e f = at_inputs (map plan_tree (out-Plan p).inputs) (tree-over p tree e)
    where
      kept : (a b : PlanTree) → IsKept (plan (out-Plan p).node (out-Plan p).rows (out-Plan p).part_rows a b)
      kept a b = kept-of info db (out-Plan p).node (out-Plan p).rows (out-Plan p).part_rows a b f

      at_inputs : (xs : List (Option PlanTree)) → IsTreeOver (out-Plan p).node (out-Plan p).rows (out-Plan p).part_rows tree xs → IsKept tree
      at_inputs _ (over_nothing is) = subst IsKept (sym is) (kept nothing nothing)
      at_inputs _ (over_first a is) = subst IsKept (sym is) (kept a nothing)
      at_inputs _ (over_both a b is) = subst IsKept (sym is) (kept a b)

  pub can-scan : (p : Plan) → CanRun schema parts p → fits Rows (out-Plan p).node ≡ false → CanScan schema parts p
  can-scan p h f = record { tree = h.tree; is = h.is; kept = root-kept p h.tree h.is f; formed = h.formed }

  pub scanned-run : (p : Plan) (rows : List Row) → CanRun schema parts p → fits Rows (out-Plan p).node ≡ false → AreScanned schema parts p rows → IsRun schema parts p rows
  scanned-run p rows h f s =
      let is = s.of h.tree h.is in
      run-of p h.tree rows h.is (record {
        same = λ r. ap (λ (xs : List Row). count_by (row_eq r) xs) is;
        in_order = subst (IsInOrder (order_of info h.tree)) (sym is) (kept-sorted info db h.tree h.formed (root-kept p h.tree h.is f)).sorted;
      })

  -- ---- over no input

  pub run-none : (p : Plan) → CanRun schema parts p → fits Rows (out-Plan p).node ≡ true → (out-Plan p).inputs ≡ [] → IsRun schema parts p []
  run-none p h f none =
      let t = over-none p h.tree none h.is in
      run-of p h.tree [] h.is
      (subst (λ t. AreRowsOf info db t []) (sym t.is) (none-made info db (out-Plan p).node (out-Plan p).rows (out-Plan p).part_rows f (subst (IsWellFormed info db) t.is h.formed)))

  pub reads-none : (p : Plan) → CanRun schema parts p → fits Rows (out-Plan p).node ≡ true → (out-Plan p).inputs ≡ [] → reads p ≡ 0
  reads-none p h f none =
      let t = over-none p h.tree none h.is in
      let formed : IsWellFormed info db (plan (out-Plan p).node (out-Plan p).rows (out-Plan p).part_rows nothing nothing) = subst (IsWellFormed info db) t.is h.formed in
      let zero_part = no-part info db (out-Plan p).node (out-Plan p).part_rows f formed.0.reads in
      let all : reads p ≡ (out-Plan p).part_rows + 0 + 0 = reads-tree h.tree p h.is ∙ ap tree_reads t.is in
      omega arith

  -- ---- over one input

  pub record RunsOne (p a : Plan) : Type 0 where
    pub input : CanRun schema parts a
    pub counts : reads p ≡ reads a
    pub ready : (rows : List Row) → IsRun schema parts a rows → CanRunOne (out-Plan p).node rows
    pub made : (rows made : List Row) → IsRun schema parts a rows → IsMade (out-Plan p).node 0 rows [] made → IsRun schema parts p made

  pub runs-one : (p a : Plan) → CanRun schema parts p → fits Rows (out-Plan p).node ≡ true → (out-Plan p).inputs ≡ a ∷ [] → RunsOne p a
  runs-one p a h f one =
      let node = (out-Plan p).node in
      let part = (out-Plan p).part_rows in
      let t = over-one p a h.tree one h.is in
      let formed : IsWellFormed info db (plan node (out-Plan p).rows part t.first nothing) = subst (IsWellFormed info db) t.is h.formed in
      record {
        input = record { tree = t.first; is = t.first_is; formed = formed.1 };
        counts =
            let zero_part = no-part info db node part f formed.0.reads in
            let all : reads p ≡ part + tree_reads t.first + 0 = reads-tree h.tree p h.is ∙ ap tree_reads t.is in
            let below = reads-tree t.first a t.first_is in
            omega arith;
        ready = λ rows run. one-ready info db part t.first rows (there a t.first t.first_is) (run.of t.first t.first_is) node f formed.0;
        made = λ rows made run is.
            run-of p h.tree made h.is
            (subst (λ t. AreRowsOf info db t made) (sym t.is)
            (rows-of_node info db (out-Plan p).rows part t.first nothing rows [] made (run.of t.first t.first_is) (of-nothing info db) node formed is));
      }

  -- ---- over two inputs

  pub record RunsTwo (p a b : Plan) : Type 0 where
    pub first : CanRun schema parts a
    pub second : CanRun schema parts b
    pub counts : reads p ≡ reads a + reads b
    pub ready : (n : ℕ) (left right : List Row) → HasWidth schema a n → IsRun schema parts a left → IsRun schema parts b right → CanRunTwo (out-Plan p).node n left right
    pub made : (n : ℕ) (left right made : List Row) → HasWidth schema b n → IsRun schema parts a left → IsRun schema parts b right → IsMade (out-Plan p).node n left right made
        → IsRun schema parts p made

  pub runs-two : (p a b : Plan) (rest : List Plan) → CanRun schema parts p → fits Rows (out-Plan p).node ≡ true → (out-Plan p).inputs ≡ a ∷ b ∷ rest → RunsTwo p a b
  runs-two p a b rest h f two =
      let node = (out-Plan p).node in
      let part = (out-Plan p).part_rows in
      let t = over-two p a b rest h.tree two h.is in
      let formed : IsWellFormed info db (plan node (out-Plan p).rows part t.first t.second) = subst (IsWellFormed info db) t.is h.formed in
      record {
        first = record { tree = t.first; is = t.first_is; formed = formed.1 };
        second = record { tree = t.second; is = t.second_is; formed = formed.2 };
        counts =
            let zero_part = no-part info db node part f formed.0.reads in
            let all : reads p ≡ part + tree_reads t.first + tree_reads t.second = reads-tree h.tree p h.is ∙ ap tree_reads t.is in
            let left_reads = reads-tree t.first a t.first_is in
            let right_reads = reads-tree t.second b t.second_is in
            omega arith;
        ready = λ n left right wide run other.
            subst (λ m. CanRunTwo node m left right) (sym (wide.of parts.tiles t.first t.first_is))
            (two-ready info db part t.first t.second left right (there b t.second t.second_is) (run.of t.first t.first_is) (other.of t.second t.second_is) node f formed.0);
        made = λ n left right made wide run other is.
            run-of p h.tree made h.is
            (subst (λ t. AreRowsOf info db t made) (sym t.is)
            (rows-of_node info db (out-Plan p).rows part t.first t.second left right made (run.of t.first t.first_is) (other.of t.second t.second_is) node formed
            (subst (λ m. IsMade node m left right made) (wide.of parts.tiles t.second t.second_is) is)));
      }
