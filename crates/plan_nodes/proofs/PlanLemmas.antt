-- What plans with lists of inputs are as trees.
use Rattle.std.proofs.Common.{◌≡◌, ℕ, ◌+◌, ◌-◌, ◌^◌, ◌<◌, ◌≤◌, List, [], ◌∷◌, map, sum, length, take, drop, get_or, Option, Some, None, refl, sym, ◌∙◌, ap, subst, arith}
use Rattle.std.specs.Prelude.{min, option_map, unwrap_or}
use Rattle.std.specs.List.{sum_by}
use Rattle.std.proofs.lemmas.List.{take_all}
use Rattle.std.proofs.lemmas.List.Sums.{sum_by_more, sum_by-cons, sum-map}
use Rattle.cal_value.specs.declared.order.KeyOrder.{KeyOrder}
use Rattle.cal_schema.specs.declared.rel_type.RelType.{RelType}
use Rattle.cal_schema.specs.declared.schema.Schema.{Schema}
use Rattle.cal_schema.specs.declared.tile.TileInfo.{TileInfo}
use Rattle.cal_rel.specs.Bag.{tile_width}
use Rattle.cal_rel.specs.Info.{Info, info_of}
use Rattle.plan_nodes.specs.declared.nodes.PlanNode.{PlanNode}
use Rattle.plan_nodes.specs.declared.nodes.PlanNode.TheVariants.{MemScan, CsvScan, TileRead, MemFilter, MemProject, CsvProject, ToEnumerable, Filter, Project, NestedLoopJoin, HashJoin, MergeJoin, HashAggregate, SortedAggregate, EmptyRows, Sort}
use Rattle.plan_nodes.specs.declared.plan.Plan.{Plan, out-Plan, roll-Plan}
use Rattle.plan_nodes.specs.declared.plan.Plan.TheFolds.{fold_out-Plan, fold-roll-Plan}
use Rattle.plan_nodes.specs.declared.traits.Convention.{Convention}
use Rattle.plan_nodes.specs.declared.traits.Traits.{Traits}
use Rattle.plan_nodes.specs.Conventions.{convention_of}
use Rattle.plan_nodes.specs.Orders.{gives, tile_of}
use Rattle.plan_nodes.specs.PlanTrees.{PlanTree, nothing, plan, rows_of, instance_width, node_width, plan_width, order_of, form_of, weights, cost, tree_reads}
use Rattle.plan_nodes.specs.Seen.{over_none, over_one, over_two, planned, tree_step, plan_tree, IsCost, IsGiven, IsOver, AreTraits, reads, reads_step}
use Rattle.plan_nodes.specs.Weights.{cut, weight}

-- ---- cost

cut-parts : (w a b : ℕ) → cut (w + a + b) ≡ cut (w + cut a + cut b)
cut-parts w a b = omega arith

cut-none : (w : ℕ) → cut w ≡ cut (w + 0 + 0)
cut-none w = omega arith

cut-one : (w a : ℕ) → cut (cut w + cut a) ≡ cut (w + a + 0)
cut-one w a = omega arith

cut-two : (w c d m n u a b : ℕ) → w ≡ cut u → c ≡ cut a → d ≡ cut b → m ≡ cut (w + c) → n ≡ cut (m + d) → n ≡ cut (u + a + b)
cut-two w c d m n u a b w_is c_is d_is m_is n_is = omega arith

traits_of : Convention → List KeyOrder → Traits
traits_of convention order = record { convention = convention; collation = order }

-- the cost of a plan is its root's weight and the costs of its inputs
pub cost-plan : (node : PlanNode) (rows part : ℕ) (a b : PlanTree)
    → cost (plan node rows part a b) ≡ cut (weight node rows (rows_of a) (rows_of b) part + cost a + cost b)
cost-plan node rows part a b = cut-parts (weight node rows (rows_of a) (rows_of b) part) (weights a) (weights b)

-- ---- the tree of a plan

pub tree-out : (p : Plan) → plan_tree p ≡ planned (out-Plan p).node (out-Plan p).rows (out-Plan p).part_rows (map plan_tree (out-Plan p).inputs)
unfolding plan_tree
tree-out p = fold_out-Plan (Option PlanTree) tree_step p

pub tree-roll : (node : PlanNode) (inputs : List Plan) (rows part : ℕ)
    → plan_tree (roll-Plan (record { node = node; inputs = inputs; rows = rows; part_rows = part })) ≡ planned node rows part (map plan_tree inputs)
unfolding plan_tree
tree-roll node inputs rows part = fold-roll-Plan (Option PlanTree) tree_step (record { node = node; inputs = inputs; rows = rows; part_rows = part })

-- what a tree is made of, by its list of inputs
pub data IsTreeOver (node : PlanNode) (rows part : ℕ) (tree : PlanTree) : List (Option PlanTree) → Type 0 where
  over_nothing : tree ≡ plan node rows part nothing nothing → IsTreeOver node rows part tree []
  over_first : (a : PlanTree) → tree ≡ plan node rows part a nothing → IsTreeOver node rows part tree (Some a ∷ [])
  over_both : (a b : PlanTree) → tree ≡ plan node rows part a b → IsTreeOver node rows part tree (Some a ∷ Some b ∷ [])

is-none : (node : PlanNode) (rows part : ℕ) (tree : PlanTree) (inputs : List (Option PlanTree)) → over_none node rows part inputs ≡ Some tree → IsTreeOver node rows part tree inputs
is-none node rows part tree [] e = over_nothing cc
is-none node rows part tree (x ∷ xs) e = absurd (Prim.cc)

is-one : (node : PlanNode) (rows part : ℕ) (tree : PlanTree) (inputs : List (Option PlanTree)) → over_one node rows part inputs ≡ Some tree → IsTreeOver node rows part tree inputs
is-one node rows part tree [] e = absurd (Prim.cc)
is-one node rows part tree (None ∷ []) e = absurd (Prim.cc)
is-one node rows part tree (None ∷ (x ∷ xs)) e = absurd (Prim.cc)
is-one node rows part tree (Some a ∷ []) e = over_first a cc
is-one node rows part tree (Some a ∷ (x ∷ xs)) e = absurd (Prim.cc)

is-two : (node : PlanNode) (rows part : ℕ) (tree : PlanTree) (inputs : List (Option PlanTree)) → over_two node rows part inputs ≡ Some tree → IsTreeOver node rows part tree inputs
is-two node rows part tree [] e = absurd (Prim.cc)
is-two node rows part tree (None ∷ []) e = absurd (Prim.cc)
is-two node rows part tree (None ∷ (x ∷ xs)) e = absurd (Prim.cc)
is-two node rows part tree (Some a ∷ []) e = absurd (Prim.cc)
is-two node rows part tree (Some a ∷ (None ∷ [])) e = absurd (Prim.cc)
is-two node rows part tree (Some a ∷ (None ∷ (x ∷ xs))) e = absurd (Prim.cc)
is-two node rows part tree (Some a ∷ (Some b ∷ [])) e = over_both a b cc
is-two node rows part tree (Some a ∷ (Some b ∷ (x ∷ xs))) e = absurd (Prim.cc)

is-planned : (node : PlanNode) (rows part : ℕ) (tree : PlanTree) (inputs : List (Option PlanTree)) → planned node rows part inputs ≡ Some tree → IsTreeOver node rows part tree inputs
is-planned (MemScan table) rows part tree inputs e = is-none (MemScan table) rows part tree inputs e
is-planned (CsvScan table) rows part tree inputs e = is-none (CsvScan table) rows part tree inputs e
is-planned (TileRead tile) rows part tree inputs e = is-none (TileRead tile) rows part tree inputs e
is-planned (MemFilter predicate) rows part tree inputs e = is-one (MemFilter predicate) rows part tree inputs e
is-planned (MemProject items) rows part tree inputs e = is-one (MemProject items) rows part tree inputs e
is-planned (CsvProject items) rows part tree inputs e = is-one (CsvProject items) rows part tree inputs e
is-planned ToEnumerable rows part tree inputs e = is-one ToEnumerable rows part tree inputs e
is-planned (Filter predicate) rows part tree inputs e = is-one (Filter predicate) rows part tree inputs e
is-planned (Project items) rows part tree inputs e = is-one (Project items) rows part tree inputs e
is-planned (NestedLoopJoin kind on) rows part tree inputs e = is-two (NestedLoopJoin kind on) rows part tree inputs e
is-planned (HashJoin kind on) rows part tree inputs e = is-two (HashJoin kind on) rows part tree inputs e
is-planned (MergeJoin on) rows part tree inputs e = is-two (MergeJoin on) rows part tree inputs e
is-planned (HashAggregate groups calls) rows part tree inputs e = is-one (HashAggregate groups calls) rows part tree inputs e
is-planned (SortedAggregate groups calls) rows part tree inputs e = is-one (SortedAggregate groups calls) rows part tree inputs e
is-planned (EmptyRows types) rows part tree inputs e = is-none (EmptyRows types) rows part tree inputs e
is-planned (Sort keys) rows part tree inputs e = is-one (Sort keys) rows part tree inputs e

pub tree-over : (p : Plan) (tree : PlanTree) → plan_tree p ≡ Some tree → IsTreeOver (out-Plan p).node (out-Plan p).rows (out-Plan p).part_rows tree (map plan_tree (out-Plan p).inputs)
tree-over p tree e =
    is-planned (out-Plan p).node (out-Plan p).rows (out-Plan p).part_rows tree (map plan_tree (out-Plan p).inputs) (sym (tree-out p) ∙ e)

-- the root of a plan is the root of its tree
pub record HasRoot (p : Plan) (tree : PlanTree) : Type 0 where
  pub rows : rows_of tree ≡ (out-Plan p).rows
  pub form : form_of tree ≡ convention_of (out-Plan p).node

pub tree-root : (p : Plan) (tree : PlanTree) → plan_tree p ≡ Some tree → HasRoot p tree
tree-root p tree e = at_inputs (map plan_tree (out-Plan p).inputs) (tree-over p tree e)
  where
    at_inputs : (xs : List (Option PlanTree)) → IsTreeOver (out-Plan p).node (out-Plan p).rows (out-Plan p).part_rows tree xs → HasRoot p tree
    at_inputs _ (over_nothing is) = rw is (record { rows = refl; form = refl })
    at_inputs _ (over_first a is) = rw is (record { rows = refl; form = refl })
    at_inputs _ (over_both a b is) = rw is (record { rows = refl; form = refl })

-- ---- what a tree is over inputs that are there

pub record IsBare (p : Plan) (tree : PlanTree) : Type 0 where
  pub is : tree ≡ plan (out-Plan p).node (out-Plan p).rows (out-Plan p).part_rows nothing nothing

pub record IsOverOne (p a : Plan) (tree : PlanTree) : Type 0 where
  pub first : PlanTree
  pub first_is : plan_tree a ≡ Some first
  pub is : tree ≡ plan (out-Plan p).node (out-Plan p).rows (out-Plan p).part_rows first nothing

pub record IsOverTwo (p a b : Plan) (rest : List Plan) (tree : PlanTree) : Type 0 where
  pub first : PlanTree
  pub first_is : plan_tree a ≡ Some first
  pub second : PlanTree
  pub second_is : plan_tree b ≡ Some second
  pub is : tree ≡ plan (out-Plan p).node (out-Plan p).rows (out-Plan p).part_rows first second
  pub alone : map plan_tree rest ≡ []

pub over-none : (p : Plan) (tree : PlanTree) → (out-Plan p).inputs ≡ [] → plan_tree p ≡ Some tree → IsBare p tree
over-none p tree none e = at_inputs (map plan_tree (out-Plan p).inputs) (tree-over p tree e) (ap (map plan_tree) none)
  where
    at_inputs : (xs : List (Option PlanTree)) → IsTreeOver (out-Plan p).node (out-Plan p).rows (out-Plan p).part_rows tree xs → xs ≡ [] → IsBare p tree
    at_inputs _ (over_nothing is) e = record { is = is }
    at_inputs _ (over_first a is) e = absurd (Prim.cc)
    at_inputs _ (over_both a b is) e = absurd (Prim.cc)

pub over-one : (p a : Plan) (tree : PlanTree) → (out-Plan p).inputs ≡ a ∷ [] → plan_tree p ≡ Some tree → IsOverOne p a tree
over-one p a tree one e = at_inputs (map plan_tree (out-Plan p).inputs) (tree-over p tree e) (ap (map plan_tree) one)
  where
    at_inputs : (xs : List (Option PlanTree)) → IsTreeOver (out-Plan p).node (out-Plan p).rows (out-Plan p).part_rows tree xs → xs ≡ plan_tree a ∷ [] → IsOverOne p a tree
    at_inputs _ (over_nothing is) e = absurd (Prim.cc)
    at_inputs _ (over_first t is) e = record { first = t; first_is = cc; is = is }
    at_inputs _ (over_both t u is) e = absurd (Prim.cc)

map-none : (ps : List Plan) → map plan_tree ps ≡ [] → ps ≡ []
map-none [] e = refl
map-none (p ∷ ps) e = absurd (Prim.cc)

-- where there are more than two inputs there is no tree
pub over-two : (p a b : Plan) (rest : List Plan) (tree : PlanTree) → (out-Plan p).inputs ≡ a ∷ b ∷ rest → plan_tree p ≡ Some tree → IsOverTwo p a b rest tree
over-two p a b rest tree two e = at_inputs (map plan_tree (out-Plan p).inputs) (tree-over p tree e) (ap (map plan_tree) two)
  where
    at_inputs : (xs : List (Option PlanTree)) → IsTreeOver (out-Plan p).node (out-Plan p).rows (out-Plan p).part_rows tree xs → xs ≡ plan_tree a ∷ plan_tree b ∷ map plan_tree rest
        → IsOverTwo p a b rest tree
    at_inputs _ (over_nothing is) e = absurd (Prim.cc)
    at_inputs _ (over_first t is) e = absurd (Prim.cc)
    at_inputs _ (over_both t u is) e = record { first = t; first_is = cc; second = u; second_is = cc; is = is; alone = cc }

-- ---- the cost of a plan

pub cost-none : (p : Plan) (n : ℕ) → (out-Plan p).inputs ≡ [] → n ≡ cut (weight (out-Plan p).node (out-Plan p).rows 0 0 (out-Plan p).part_rows) → IsCost p n
cost-none p n none is = record {
  of = λ tree e.
      let t = over-none p tree none e in
      is ∙ cut-none (weight (out-Plan p).node (out-Plan p).rows 0 0 (out-Plan p).part_rows) ∙ ap cost (sym t.is);
}

pub cost-one : (p a : Plan) (n w c : ℕ) → (out-Plan p).inputs ≡ a ∷ [] → IsCost a c → w ≡ cut (weight (out-Plan p).node (out-Plan p).rows (out-Plan a).rows 0 (out-Plan p).part_rows)
    → n ≡ cut (w + c) → IsCost p n
cost-one p a n w c one first w_is is = record {
  of = λ tree e.
      let t = over-one p a tree one e in
      let root = tree-root a t.first t.first_is in
      let W : ℕ → ℕ = λ l. weight (out-Plan p).node (out-Plan p).rows l 0 (out-Plan p).part_rows in
      let weighs : w ≡ cut (W (rows_of t.first)) = w_is ∙ ap (λ l. cut (W l)) (sym root.rows) in
      let costs : c ≡ cut (weights t.first) = first.of t.first t.first_is in
      is ∙ ap (λ x. cut (x + c)) weighs ∙ ap (λ x. cut (cut (W (rows_of t.first)) + x)) costs ∙ cut-one (W (rows_of t.first)) (weights t.first) ∙ ap cost (sym t.is);
}

pub cost-two : (p a b : Plan) (rest : List Plan) (n w c d m : ℕ) → (out-Plan p).inputs ≡ a ∷ b ∷ rest → IsCost a c → IsCost b d
    → w ≡ cut (weight (out-Plan p).node (out-Plan p).rows (out-Plan a).rows (out-Plan b).rows (out-Plan p).part_rows) → m ≡ cut (w + c) → n ≡ cut (m + d) → IsCost p n
cost-two p a b rest n w c d m two first second w_is m_is is = record {
  of = λ tree e.
      let t = over-two p a b rest tree two e in
      let left = tree-root a t.first t.first_is in
      let right = tree-root b t.second t.second_is in
      let W : ℕ → ℕ → ℕ = λ l r. weight (out-Plan p).node (out-Plan p).rows l r (out-Plan p).part_rows in
      let weighs : w ≡ cut (W (rows_of t.first) (rows_of t.second)) = w_is ∙ ap (λ l. cut (W l (out-Plan b).rows)) (sym left.rows) ∙ ap (λ r. cut (W (rows_of t.first) r)) (sym right.rows) in
      cut-two w c d m n (W (rows_of t.first) (rows_of t.second)) (weights t.first) (weights t.second) weighs (first.of t.first t.first_is) (second.of t.second t.second_is) m_is is
      ∙ ap cost (sym t.is);
}

-- ---- what a plan gives

pub given-none : (info : Info) (p : Plan) (n w : ℕ) (order o : List KeyOrder) → (out-Plan p).inputs ≡ [] → w ≡ 0 → o ≡ [] → IsOver info (out-Plan p).node w o 0 n order
    → IsGiven info p n order
given-none info p n w order o none w_is o_is over = record {
  columns = λ tree e.
      let t = over-none p tree none e in
      over.columns ∙ ap (λ l. node_width info (out-Plan p).node l 0) w_is ∙ ap (plan_width info) (sym t.is);
  sorted = λ tree e.
      let t = over-none p tree none e in
      over.sorted ∙ ap (λ l. gives info l (out-Plan p).node o) w_is ∙ ap (gives info 0 (out-Plan p).node) o_is ∙ ap (order_of info) (sym t.is);
}

first-sorted : (info : Info) (p a : Plan) (w : ℕ) (order o : List KeyOrder) (first : PlanTree) → plan_tree a ≡ Some first → IsGiven info a w o → order ≡ gives info w (out-Plan p).node o
    → order ≡ gives info (plan_width info first) (out-Plan p).node (order_of info first)
first-sorted info p a w order o first is given e =
    e ∙ ap (λ l. gives info l (out-Plan p).node o) (given.columns first is) ∙ ap (gives info (plan_width info first) (out-Plan p).node) (given.sorted first is)

pub given-one : (info : Info) (p a : Plan) (n w : ℕ) (order o : List KeyOrder) → (out-Plan p).inputs ≡ a ∷ [] → IsGiven info a w o
    → IsOver info (out-Plan p).node w o 0 n order → IsGiven info p n order
given-one info p a n w order o one first over = record {
  columns = λ tree e.
      let t = over-one p a tree one e in
      over.columns ∙ ap (λ l. node_width info (out-Plan p).node l 0) (first.columns t.first t.first_is) ∙ ap (plan_width info) (sym t.is);
  sorted = λ tree e.
      let t = over-one p a tree one e in
      first-sorted info p a w order o t.first t.first_is first over.sorted ∙ ap (order_of info) (sym t.is);
}

pub given-two : (info : Info) (p a b : Plan) (rest : List Plan) (n w v : ℕ) (order o u : List KeyOrder) → (out-Plan p).inputs ≡ a ∷ b ∷ rest → IsGiven info a w o → IsGiven info b v u
    → IsOver info (out-Plan p).node w o v n order → IsGiven info p n order
given-two info p a b rest n w v order o u two first second over = record {
  columns = λ tree e.
      let t = over-two p a b rest tree two e in
      over.columns ∙ ap (λ l. node_width info (out-Plan p).node l v) (first.columns t.first t.first_is)
      ∙ ap (node_width info (out-Plan p).node (plan_width info t.first)) (second.columns t.second t.second_is) ∙ ap (plan_width info) (sym t.is);
  sorted = λ tree e.
      let t = over-two p a b rest tree two e in
      first-sorted info p a w order o t.first t.first_is first over.sorted ∙ ap (order_of info) (sym t.is);
}

pub given-traits : (info : Info) (p : Plan) (n : ℕ) (order : List KeyOrder) (traits : Traits) → IsGiven info p n order → traits.convention ≡ convention_of (out-Plan p).node
    → traits.collation ≡ order → AreTraits info p traits
unfolding traits_of
given-traits info p n order traits given form sorted = record {
  of = λ tree e.
      let root = tree-root p tree e in
      ap (λ c. traits_of c traits.collation) (form ∙ sym root.form) ∙ ap (traits_of (form_of tree)) (sorted ∙ given.sorted tree e);
}

pub width-none : (schema : Schema) (tiles : List TileInfo) (sets : List (Option RelType)) (tile : ℕ) → 0 ≡ instance_width (info_of schema tiles sets) tile
width-none schema tiles sets tile = at_tile (tile_of tiles tile)
  where
    at_tile : (o : Option TileInfo) → 0 ≡ unwrap_or (option_map (λ t. tile_width (info_of schema tiles sets) t.key) o) 0
    at_tile None = refl
    at_tile (Some t) = refl

pub ruleset width_steps = (width-none)

-- ---- what a plan reads

pub reads-out : (p : Plan) → reads p ≡ (out-Plan p).part_rows + sum_by reads (out-Plan p).inputs
unfolding reads
reads-out p = fold_out-Plan ℕ reads_step p ∙ ap (λ n. (out-Plan p).part_rows + n) (sum-map reads (out-Plan p).inputs)

pub reads-start : (part n : ℕ) → part < 2 ^ 64 → n ≡ part → n ≡ min (part + 0) (2 ^ 128 - 1)
reads-start part n low is = omega arith

reads-more : (part s total c r new : ℕ) → total ≡ min (part + s) (2 ^ 128 - 1) → c ≡ min r (2 ^ 128 - 1) → new ≡ min (total + c) (2 ^ 128 - 1)
    → new ≡ min (part + (s + r)) (2 ^ 128 - 1)
reads-more part s total c r new a b d = omega arith

pub reads-next : (part total c new k : ℕ) (ps : List Plan) (q : Plan) → total ≡ min (part + sum_by reads (take k ps)) (2 ^ 128 - 1) → k < length ps → q ≡ get_or ps k q
    → c ≡ min (reads q) (2 ^ 128 - 1) → new ≡ min (total + c) (2 ^ 128 - 1) → new ≡ min (part + sum_by reads (take (k + 1) ps)) (2 ^ 128 - 1)
reads-next part total c new k ps q so_far low got one is =
    let more : sum_by reads (take (k + 1) ps) ≡ sum_by reads (take k ps) + reads q = sum_by_more reads ps k q low ∙ ap (λ x. sum_by reads (take k ps) + reads x) (sym got) in
    rw more (reads-more part (sum_by reads (take k ps)) total c (reads q) new so_far one is)

pub reads-end : (p : Plan) (total k : ℕ) (ps : List Plan) → total ≡ min ((out-Plan p).part_rows + sum_by reads (take k ps)) (2 ^ 128 - 1) → ps ≡ (out-Plan p).inputs → length ps ≤ k
    → total ≡ min (reads p) (2 ^ 128 - 1)
reads-end p total k ps all is done =
    let whole : sum_by reads (take k ps) ≡ sum_by reads (out-Plan p).inputs = ap (sum_by reads) (take_all k ps done ∙ is) in
    all ∙ ap (λ n. min ((out-Plan p).part_rows + n) (2 ^ 128 - 1)) whole ∙ ap (λ n. min n (2 ^ 128 - 1)) (sym (reads-out p))

-- a plan reads what its tree reads
record Parts (node : PlanNode) (rows part : ℕ) (a b : PlanTree) (p : Plan) (x y : PlanTree) : Type 0 where
  part_is : (out-Plan p).part_rows ≡ part
  first_is : x ≡ a
  second_is : y ≡ b

parts : (node : PlanNode) (rows part : ℕ) (a b : PlanTree) (p : Plan) (x y : PlanTree) → plan node rows part a b ≡ plan (out-Plan p).node (out-Plan p).rows (out-Plan p).part_rows x y
    → Parts node rows part a b p x y
parts node rows part a b p x y e = record { part_is = cc; first_is = cc; second_is = cc }

pub reads-tree : (tree : PlanTree) (p : Plan) → plan_tree p ≡ Some tree → reads p ≡ tree_reads tree
reads-tree nothing p e = at_inputs (map plan_tree (out-Plan p).inputs) (tree-over p nothing e)
  where
    at_inputs : (xs : List (Option PlanTree)) → IsTreeOver (out-Plan p).node (out-Plan p).rows (out-Plan p).part_rows nothing xs → reads p ≡ 0
    at_inputs _ (over_nothing is) = absurd (Prim.cc)
    at_inputs _ (over_first a is) = absurd (Prim.cc)
    at_inputs _ (over_both a b is) = absurd (Prim.cc)
reads-tree (plan node rows part a b) p e = reads-out p ∙ at_inputs (out-Plan p).inputs refl (reads-tree a) (reads-tree b)
  where
    at_inputs : (ps : List Plan) → (out-Plan p).inputs ≡ ps → ((q : Plan) → plan_tree q ≡ Some a → reads q ≡ tree_reads a) → ((q : Plan) → plan_tree q ≡ Some b → reads q ≡ tree_reads b)
        → (out-Plan p).part_rows + sum_by reads (out-Plan p).inputs ≡ part + tree_reads a + tree_reads b
    at_inputs [] is first second =
        let t = over-none p (plan node rows part a b) is e in
        let m = parts node rows part a b p nothing nothing t.is in
        rw (is, m.part_is, ← m.first_is, ← m.second_is) (omega arith)
    at_inputs (x ∷ []) is first second =
        let t = over-one p x (plan node rows part a b) is e in
        let m = parts node rows part a b p t.first nothing t.is in
        let r = first x (t.first_is ∙ ap Some m.first_is) in
        let zero_reads : tree_reads b ≡ 0 = ap tree_reads (sym m.second_is) in
        let s : sum_by reads (x ∷ []) ≡ reads x + 0 = sum_by-cons reads x [] in
        rw (is, m.part_is, s, r, zero_reads) (omega arith)
    at_inputs (x ∷ (y ∷ ps)) is first second =
        let t = over-two p x y ps (plan node rows part a b) is e in
        let m = parts node rows part a b p t.first t.second t.is in
        let r = first x (t.first_is ∙ ap Some m.first_is) in
        let q = second y (t.second_is ∙ ap Some m.second_is) in
        let s : sum_by reads (x ∷ (y ∷ ps)) ≡ reads x + (reads y + sum_by reads ps) = sum_by-cons reads x (y ∷ ps) ∙ ap (λ n. reads x + n) (sum_by-cons reads y ps) in
        let end : sum_by reads ps ≡ 0 = ap (sum_by reads) (map-none ps t.alone) in
        rw (is, m.part_is, s, r, q, end) (omega arith)

-- ---- inputs, by their number

pub inputs-none : (p : Plan) (xs : List Plan) → xs ≡ (out-Plan p).inputs → length xs < 1 → (out-Plan p).inputs ≡ []
inputs-none p [] e h = sym e
inputs-none p (x ∷ xs) e h = absurd (omega arith)

pub inputs-one : (p a : Plan) (xs : List Plan) → xs ≡ (out-Plan p).inputs → 1 ≤ length xs → length xs < 2 → a ≡ get_or xs 0 a → (out-Plan p).inputs ≡ a ∷ []
inputs-one p a [] e h g i = absurd (omega arith)
inputs-one p a (x ∷ []) e h g i = sym e ∙ ap (λ y. y ∷ []) (sym i)
inputs-one p a (x ∷ (y ∷ xs)) e h g i = absurd (omega arith)

pub inputs-two : (p a b : Plan) (xs : List Plan) → xs ≡ (out-Plan p).inputs → 2 ≤ length xs → a ≡ get_or xs 0 a → b ≡ get_or xs 1 b → (out-Plan p).inputs ≡ a ∷ b ∷ drop 2 xs
inputs-two p a b [] e h i j = absurd (omega arith)
inputs-two p a b (x ∷ []) e h i j = absurd (omega arith)
inputs-two p a b (x ∷ (y ∷ xs)) e h i j = sym e ∙ ap (λ z. z ∷ (y ∷ xs)) (sym i) ∙ ap (λ z. a ∷ (z ∷ xs)) (sym j)
