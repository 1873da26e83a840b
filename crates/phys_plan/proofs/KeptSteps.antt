-- Ways of the kind that is asked.
use Rattle.std.proofs.Common.{◌≡◌, ℕ, ◌≤◌, ◌++◌, Bool, true, false, cond, List, [], ◌∷◌, length, take, Option, Some, None, refl, sym, ◌∙◌, ap, subst, append_assoc}
use Rattle.std.specs.List.{flat_map, slice_get}
use Rattle.std.proofs.lemmas.List.{append-nil, take_all}
use Rattle.cal_expr.specs.declared.expr.Expr.{Expr}
use Rattle.cal_schema.specs.declared.agg_call.AggCall.{AggCall}
use Rattle.cal_schema.specs.declared.join_kind.JoinKind.{JoinKind}
use Rattle.cal_schema.specs.declared.join_kind.JoinKind.TheVariants.{Inner, Left}
use Rattle.cal_schema.specs.declared.star_pair.StarPair.{StarPair}
use Rattle.cal_value.specs.declared.order.KeyOrder.{KeyOrder}
use Rattle.cal_rel.specs.Bag.{set_width}
use Rattle.cal_rel.specs.Info.{Info}
use Rattle.cal_rel.specs.Tree.{Unary, filter_by, project_to, aggregate_by, Binary, join_on}
use Rattle.cal_rel.specs.Typing.{pairs_of}
use Rattle.plan_nodes.specs.Conventions.{same_convention, convention_of}
use Rattle.plan_nodes.specs.declared.nodes.PlanNode.{PlanNode}
use Rattle.plan_nodes.specs.declared.nodes.PlanNode.TheVariants.{MemScan, CsvScan, TileRead, MemFilter, MemProject, CsvProject, ToEnumerable, Filter, Project, NestedLoopJoin, HashJoin, MergeJoin, HashAggregate, SortedAggregate, EmptyRows, Sort}
use Rattle.plan_nodes.specs.declared.traits.Convention.{Convention}
use Rattle.plan_nodes.specs.declared.traits.Convention.TheVariants.{Csv, Mem, Tile, Enumerable}
use Rattle.phys_plan.specs.declared.ways.Want.{Want}
use Rattle.phys_plan.specs.declared.ways.Want.TheVariants.{Rows, MemScanned, MemFiltered, MemKept, CsvScanned, CsvKept, Tiled}
use Rattle.phys_plan.specs.declared.ways.Ask.{Ask}
use Rattle.phys_plan.specs.declared.ways.Way.{Way}
use Rattle.phys_plan.specs.declared.alternatives.State.{State}
use Rattle.phys_plan.specs.declared.alternatives.Alternative.{Alternative}
use Rattle.phys_plan.specs.Spaces.{Space}
use Rattle.phys_plan.specs.Ways.{is_mem_scan, is_mem_filter, is_csv_scan, fits, way, merge_ways, pair_ways, binary_ways, unary_ways, sort_ways, converters, ways}
use Rattle.phys_plan.specs.Alternatives.{meets_by, alternatives}
use Rattle.phys_plan.specs.Seen.{over_one, over_two, takes, kept, TakesRows}
use Rattle.phys_plan.proofs.Members.{Every}

-- ---- nodes of enumerable rows

no-mem-scan : (node : PlanNode) → convention_of node ≡ Enumerable → is_mem_scan node ≡ false
no-mem-scan (MemScan table) e = absurd cc
no-mem-scan (CsvScan table) e = refl
no-mem-scan (TileRead tile) e = refl
no-mem-scan (MemFilter predicate) e = refl
no-mem-scan (MemProject items) e = refl
no-mem-scan (CsvProject items) e = refl
no-mem-scan ToEnumerable e = refl
no-mem-scan (Filter predicate) e = refl
no-mem-scan (Project items) e = refl
no-mem-scan (NestedLoopJoin kind on) e = refl
no-mem-scan (HashJoin kind on) e = refl
no-mem-scan (MergeJoin on) e = refl
no-mem-scan (HashAggregate groups calls) e = refl
no-mem-scan (SortedAggregate groups calls) e = refl
no-mem-scan (EmptyRows types) e = refl
no-mem-scan (Sort keys) e = refl

no-mem-filter : (node : PlanNode) → convention_of node ≡ Enumerable → is_mem_filter node ≡ false
no-mem-filter (MemScan table) e = refl
no-mem-filter (CsvScan table) e = refl
no-mem-filter (TileRead tile) e = refl
no-mem-filter (MemFilter predicate) e = absurd cc
no-mem-filter (MemProject items) e = refl
no-mem-filter (CsvProject items) e = refl
no-mem-filter ToEnumerable e = refl
no-mem-filter (Filter predicate) e = refl
no-mem-filter (Project items) e = refl
no-mem-filter (NestedLoopJoin kind on) e = refl
no-mem-filter (HashJoin kind on) e = refl
no-mem-filter (MergeJoin on) e = refl
no-mem-filter (HashAggregate groups calls) e = refl
no-mem-filter (SortedAggregate groups calls) e = refl
no-mem-filter (EmptyRows types) e = refl
no-mem-filter (Sort keys) e = refl

no-csv-scan : (node : PlanNode) → convention_of node ≡ Enumerable → is_csv_scan node ≡ false
no-csv-scan (MemScan table) e = refl
no-csv-scan (CsvScan table) e = absurd cc
no-csv-scan (TileRead tile) e = refl
no-csv-scan (MemFilter predicate) e = refl
no-csv-scan (MemProject items) e = refl
no-csv-scan (CsvProject items) e = refl
no-csv-scan ToEnumerable e = refl
no-csv-scan (Filter predicate) e = refl
no-csv-scan (Project items) e = refl
no-csv-scan (NestedLoopJoin kind on) e = refl
no-csv-scan (HashJoin kind on) e = refl
no-csv-scan (MergeJoin on) e = refl
no-csv-scan (HashAggregate groups calls) e = refl
no-csv-scan (SortedAggregate groups calls) e = refl
no-csv-scan (EmptyRows types) e = refl
no-csv-scan (Sort keys) e = refl

pub takes-all : TakesRows None true
takes-all = record { answer = λ node e. refl }

pub takes-rows : TakesRows (Some Rows) true
takes-rows = record { answer = λ node e. rw e refl }

pub takes-mem-scan : TakesRows (Some MemScanned) false
takes-mem-scan = record { answer = no-mem-scan }

pub takes-mem-filter : TakesRows (Some MemFiltered) false
takes-mem-filter = record { answer = λ node e. rw (no-mem-scan node e) (no-mem-filter node e) }

pub takes-mem : TakesRows (Some MemKept) false
takes-mem = record { answer = λ node e. rw e refl }

pub takes-csv-scan : TakesRows (Some CsvScanned) false
takes-csv-scan = record { answer = no-csv-scan }

pub takes-csv : TakesRows (Some CsvKept) false
takes-csv = record { answer = λ node e. rw e refl }

pub takes-tile : TakesRows (Some Tiled) false
takes-tile = record { answer = λ node e. rw e refl }

pub ruleset takes_steps = (takes-all, takes-rows, takes-mem-scan, takes-mem-filter, takes-mem, takes-csv-scan, takes-csv, takes-tile)

-- ---- lists of ways

pub kept-all : (ws : List Way) → kept None ws ≡ ws
kept-all [] = refl
kept-all (w ∷ ws) = ap (λ xs. w ∷ xs) (kept-all ws)

pub kept-append : (only : Option Want) (xs ys : List Way) → kept only (xs ++ ys) ≡ kept only xs ++ kept only ys
kept-append only [] ys = refl
kept-append only (w ∷ xs) ys = at_test (takes only w.node) (kept-append only xs ys)
  where
    at_test : (b : Bool) → kept only (xs ++ ys) ≡ kept only xs ++ kept only ys
        → cond b (w ∷ kept only (xs ++ ys)) (kept only (xs ++ ys)) ≡ cond b (w ∷ kept only xs) (kept only xs) ++ kept only ys
    at_test true h = ap (λ zs. w ∷ zs) h
    at_test false h = h

-- a way that is taken, and one that isn't
pub kept-there : (only : Option Want) (old : List Way) (node : PlanNode) (first second : Option Ask) → takes only node ≡ true
    → old ++ way node first second ∷ [] ≡ old ++ kept only (way node first second ∷ [])
kept-there only old node first second e = rw e refl

pub kept-gone : (only : Option Want) (old : List Way) (node : PlanNode) (first second : Option Ask) → takes only node ≡ false
    → old ≡ old ++ kept only (way node first second ∷ [])
kept-gone only old node first second e = rw e (sym (append-nil old))

-- one way after another
pub kept-then : (only : Option Want) (old : List Way) (w : Way) (ws : List Way) → (old ++ kept only (w ∷ [])) ++ kept only ws ≡ old ++ kept only (w ∷ ws)
kept-then only old w ws = append_assoc old (kept only (w ∷ [])) (kept only ws) ∙ ap (λ xs. old ++ xs) (sym (kept-append only (w ∷ []) ws))

abbrev IsRows : Way → Type 0
IsRows w = convention_of w.node ≡ Enumerable

rows-there : (only : Option Want) → TakesRows only true → (ws : List Way) → Every IsRows ws → kept only ws ≡ ws
rows-there only h [] all = refl
rows-there only h (w ∷ ws) all = rw (h.answer w.node all.0) (ap (λ xs. w ∷ xs) (rows-there only h ws all.1))

rows-gone : (only : Option Want) → TakesRows only false → (ws : List Way) → Every IsRows ws → kept only ws ≡ []
rows-gone only h [] all = refl
rows-gone only h (w ∷ ws) all = rw (h.answer w.node all.0) (rows-gone only h ws all.1)

-- ---- members whose ways all give enumerable rows

group-rows : (groups : List ℕ) (calls : List AggCall) (k : Option ℕ) → Every IsRows (over_one (aggregate_by groups calls) k)
group-rows groups calls None = tt
group-rows groups calls (Some k) = (refl, (refl, tt))

merge-rows : (kind : JoinKind) (width : ℕ) (on : Expr) (j k : ℕ) → Every IsRows (merge_ways kind width on j k)
merge-rows Inner width on j k = (refl, tt)
merge-rows Left width on j k = tt

pair-rows : (pairs : List StarPair) (kind : JoinKind) (width : ℕ) (on : Expr) (j k : ℕ) → Every IsRows (pair_ways pairs kind width on j k)
pair-rows [] kind width on j k = tt
pair-rows (pair ∷ pairs) kind width on j k = (refl, merge-rows kind width on j k)

join-rows : (info : Info) (kind : JoinKind) (on : Expr) (j k : Option ℕ) → Every IsRows (over_two info (join_on kind on) j k)
join-rows info kind on None k = tt
join-rows info kind on (Some j) None = tt
join-rows info kind on (Some j) (Some k) = (refl, pair-rows (pairs_of (set_width info j) on) kind (set_width info j) on j k)

sort-rows : (set : ℕ) (order : List KeyOrder) → Every IsRows (sort_ways set order)
sort-rows set [] = tt
sort-rows set (key ∷ order) = (refl, tt)

convert-rows : (set : ℕ) (order : List KeyOrder) → Every IsRows (converters set order)
convert-rows set order = (refl, (refl, (refl, sort-rows set order)))

pub row-there : (only : Option Want) (b : Bool) (old : List Way) (node : PlanNode) (first second : Option Ask) → TakesRows only b → b ≡ true → convention_of node ≡ Enumerable
    → old ++ way node first second ∷ [] ≡ old ++ kept only (way node first second ∷ [])
row-there only b old node first second h is e = kept-there only old node first second (h.answer node e ∙ is)

pub row-gone : (only : Option Want) (b : Bool) (old : List Way) (node : PlanNode) (first second : Option Ask) → TakesRows only b → b ≡ false → convention_of node ≡ Enumerable
    → old ≡ old ++ kept only (way node first second ∷ [])
row-gone only b old node first second h is e = kept-gone only old node first second (h.answer node e ∙ is)

pub groups-there : (only : Option Want) (b : Bool) (groups : List ℕ) (calls : List AggCall) (k : Option ℕ) → TakesRows only b → b ≡ true
    → kept only (over_one (aggregate_by groups calls) k) ≡ over_one (aggregate_by groups calls) k
groups-there only b groups calls k h is = rows-there only (subst (TakesRows only) is h) (over_one (aggregate_by groups calls) k) (group-rows groups calls k)

pub groups-gone : (only : Option Want) (b : Bool) (groups : List ℕ) (calls : List AggCall) (k : Option ℕ) → TakesRows only b → b ≡ false
    → kept only (over_one (aggregate_by groups calls) k) ≡ []
groups-gone only b groups calls k h is = rows-gone only (subst (TakesRows only) is h) (over_one (aggregate_by groups calls) k) (group-rows groups calls k)

pub joins-there : (only : Option Want) (b : Bool) (info : Info) (kind : JoinKind) (on : Expr) (j k : Option ℕ) → TakesRows only b → b ≡ true
    → kept only (over_two info (join_on kind on) j k) ≡ over_two info (join_on kind on) j k
joins-there only b info kind on j k h is = rows-there only (subst (TakesRows only) is h) (over_two info (join_on kind on) j k) (join-rows info kind on j k)

pub joins-gone : (only : Option Want) (b : Bool) (info : Info) (kind : JoinKind) (on : Expr) (j k : Option ℕ) → TakesRows only b → b ≡ false
    → kept only (over_two info (join_on kind on) j k) ≡ []
joins-gone only b info kind on j k h is = rows-gone only (subst (TakesRows only) is h) (over_two info (join_on kind on) j k) (join-rows info kind on j k)

pub converters-there : (only : Option Want) (b : Bool) (set : ℕ) (order : List KeyOrder) → TakesRows only b → b ≡ true → kept only (converters set order) ≡ converters set order
converters-there only b set order h is = rows-there only (subst (TakesRows only) is h) (converters set order) (convert-rows set order)

pub converters-gone : (only : Option Want) (b : Bool) (set : ℕ) (order : List KeyOrder) → TakesRows only b → b ≡ false → kept only (converters set order) ≡ []
converters-gone only b set order h is = rows-gone only (subst (TakesRows only) is h) (converters set order) (convert-rows set order)

pub ruleset kept_steps = (kept-then, kept-there, kept-gone, row-there, row-gone, groups-there, groups-gone, joins-there, joins-gone, converters-there, converters-gone, append-nil)

-- ---- what a way of another kind makes of a state

pub kept-meets : (space : Space) (s : State) (ws : List Way) → flat_map (meets_by space s) (kept (Some s.ask.want) ws) ≡ flat_map (meets_by space s) ws
kept-meets space s [] = refl
kept-meets space s (w ∷ ws) = at_test (fits s.ask.want w.node) refl (kept-meets space s ws)
  where
    at_test : (b : Bool) → fits s.ask.want w.node ≡ b
        → flat_map (meets_by space s) (kept (Some s.ask.want) ws) ≡ flat_map (meets_by space s) ws
        → flat_map (meets_by space s) (kept (Some s.ask.want) (w ∷ ws)) ≡ flat_map (meets_by space s) (w ∷ ws)
    at_test true e h =
        let k : kept (Some s.ask.want) (w ∷ ws) ≡ w ∷ kept (Some s.ask.want) ws = rw e refl in
        ap (flat_map (meets_by space s)) k ∙ ap (λ xs. meets_by space s w ++ xs) h
    at_test false e h =
        let k : kept (Some s.ask.want) (w ∷ ws) ≡ kept (Some s.ask.want) ws = rw e refl in
        let gone : meets_by space s w ≡ [] = rw e refl in
        ap (flat_map (meets_by space s)) k ∙ h ∙ ap (λ xs. xs ++ flat_map (meets_by space s) ws) (sym gone)

pub alternatives-end : (space : Space) (s : State) (order : List KeyOrder) (out : List Alternative) (xs ws : List Way) (i : ℕ) → order ≡ s.ask.order
    → ws ≡ kept (Some s.ask.want) (ways space s.ask.set order) → xs ≡ ws → length xs ≤ i → out ≡ flat_map (meets_by space s) (take i xs) → out ≡ alternatives space s
alternatives-end space s order out xs ws i o w x low is =
    is ∙ ap (flat_map (meets_by space s)) (take_all i xs low ∙ x ∙ w ∙ ap (λ k. kept (Some s.ask.want) (ways space s.ask.set k)) o) ∙ kept-meets space s (ways space s.ask.set s.ask.order)
