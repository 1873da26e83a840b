-- What spells each member, and the steps of loops that append what each item gives.
use Rattle.std.proofs.Common.{◌≡◌, ℕ, ◌+◌, ◌<◌, ◌≤◌, List, [], ◌∷◌, ◌++◌, length, get_or, take, map, Option, Some, None, refl, sym, ◌∙◌, ap, arith, append_assoc}
use Rattle.std.specs.List.{flat_map, slice_get}
use Rattle.std.proofs.lemmas.List.{append-nil, take_more, take_all, flat_map_more}
use Rattle.cal_value.specs.declared.kind.SqlType.{SqlType}
use Rattle.cal_value.specs.declared.order.KeyOrder.{KeyOrder}
use Rattle.cal_expr.specs.declared.expr.Expr.{Expr}
use Rattle.cal_schema.specs.declared.agg_call.AggCall.{AggCall}
use Rattle.cal_schema.specs.declared.join_kind.JoinKind.{JoinKind}
use Rattle.cal_rel.specs.declared.rel.Rel.{Rel}
use Rattle.cal_rel.specs.declared.rel.Rel.TheVariants as r
use Rattle.cal_rel.specs.Info.{Info}
use Rattle.cal_rel.specs.Tree.{Tree, scan, tile_scan, star_scan, empty_of, Unary, filter_by, project_to, aggregate_by, Binary, join_on, leaf, unary, binary, hole, tree_of}
use Rattle.cal_rel.proofs.TreeSteps.{tree-Scan, tree-TileScan, tree-StarScan, tree-Filter, tree-Project, tree-Join, tree-Aggregate, tree-Empty, tree-Hole}
use Rattle.memo_sets.specs.declared.memo.Member.{Member}
use Rattle.memo_sets.specs.Seen.{member_of}
use Rattle.plan_nodes.specs.declared.nodes.PlanNode.TheVariants.{EmptyRows}
use Rattle.phys_plan.specs.declared.ways.Want.{Want}
use Rattle.phys_plan.specs.declared.ways.Way.{Way}
use Rattle.phys_plan.specs.declared.space.Space.{Space}
use Rattle.phys_plan.specs.Seen.{space_of, hole_at, kept, over_one, over_two}
use Rattle.phys_plan.specs.Ways.{way, leaf_ways, spells, converters, spells_in, ways}
use Rattle.phys_plan.proofs.KeptSteps.{kept-all, kept-append, kept-meets}

-- ---- members

one : (info : Info) (u : Unary) (t : Tree) → spells info (unary u t) ≡ over_one u (hole_at t)
one info u (leaf l) = refl
one info u (unary v t) = refl
one info u (binary b s t) = refl
one info u (hole k) = refl

two : (info : Info) (b : Binary) (s t : Tree) → spells info (binary b s t) ≡ over_two info b (hole_at s) (hole_at t)
two info b (leaf l) t = refl
two info b (unary u s) t = refl
two info b (binary c r s) t = refl
two info b (hole j) (leaf l) = refl
two info b (hole j) (unary u t) = refl
two info b (hole j) (binary c s t) = refl
two info b (hole j) (hole k) = refl

pub spelled-Scan : (only : Option Want) (info : Info) (table : ℕ) → kept only (spells info (tree_of (r.Scan table))) ≡ kept only (leaf_ways info (scan table))
spelled-Scan only info table = ap (kept only) (ap (spells info) (tree-Scan table))

pub spelled-TileScan : (only : Option Want) (info : Info) (at : ℕ) → kept only (spells info (tree_of (r.TileScan at))) ≡ kept only (leaf_ways info (tile_scan at))
spelled-TileScan only info at = ap (kept only) (ap (spells info) (tree-TileScan at))

pub spelled-StarScan : (only : Option Want) (info : Info) (lattice : ℕ) → kept only (spells info (tree_of (r.StarScan lattice))) ≡ kept only ([])
spelled-StarScan only info lattice = ap (kept only) (ap (spells info) (tree-StarScan lattice))

pub spelled-Filter : (only : Option Want) (info : Info) (t : Rel) (p : Expr) → kept only (spells info (tree_of (r.Filter t p))) ≡ kept only (over_one (filter_by p) (hole_at (tree_of t)))
spelled-Filter only info t p = ap (kept only) (ap (spells info) (tree-Filter t p) ∙ one info (filter_by p) (tree_of t))

pub spelled-Project : (only : Option Want) (info : Info) (t : Rel) (items : List Expr) → kept only (spells info (tree_of (r.Project t items))) ≡ kept only (over_one (project_to items) (hole_at (tree_of t)))
spelled-Project only info t items = ap (kept only) (ap (spells info) (tree-Project t items) ∙ one info (project_to items) (tree_of t))

pub spelled-Join : (only : Option Want) (info : Info) (kind : JoinKind) (s t : Rel) (on : Expr) → kept only (spells info (tree_of (r.Join kind s t on))) ≡ kept only (over_two info (join_on kind on) (hole_at (tree_of s)) (hole_at (tree_of t)))
spelled-Join only info kind s t on = ap (kept only) (ap (spells info) (tree-Join kind s t on) ∙ two info (join_on kind on) (tree_of s) (tree_of t))

pub spelled-Aggregate : (only : Option Want) (info : Info) (t : Rel) (groups : List ℕ) (calls : List AggCall)
    → kept only (spells info (tree_of (r.Aggregate t groups calls))) ≡ kept only (over_one (aggregate_by groups calls) (hole_at (tree_of t)))
spelled-Aggregate only info t groups calls = ap (kept only) (ap (spells info) (tree-Aggregate t groups calls) ∙ one info (aggregate_by groups calls) (tree_of t))

pub spelled-Empty : (only : Option Want) (info : Info) (types : List SqlType) → kept only (spells info (tree_of (r.Empty types))) ≡ kept only (way (EmptyRows types) None None ∷ [])
spelled-Empty only info types = ap (kept only) (ap (spells info) (tree-Empty types))

pub spelled-Hole : (only : Option Want) (info : Info) (set : ℕ) → kept only (spells info (tree_of (r.Hole set))) ≡ kept only ([])
spelled-Hole only info set = ap (kept only) (ap (spells info) (tree-Hole set))

pub ruleset spelled_steps = (spelled-Scan, spelled-TileScan, spelled-StarScan, spelled-Filter, spelled-Project, spelled-Join, spelled-Aggregate, spelled-Empty, spelled-Hole, append-nil)

-- ---- loops

pub flat-next : {A B : Type 0} (f : A → List B) (before : List B) (xs : List A) (i : ℕ) (x : A) → i < length xs → x ≡ get_or xs i x
    → (before ++ flat_map f (take i xs)) ++ f x ≡ before ++ flat_map f (take (i + 1) xs)
flat-next f before xs i x h e =
    flat_map_more f before (take i xs) x ∙ ap (λ ys. before ++ flat_map f ys) (ap (λ y. take i xs ++ y ∷ []) e ∙ sym (take_more xs i x h))

pub flat-all : {A B : Type 0} (f : A → List B) (before : List B) (xs : List A) (i : ℕ) → length xs ≤ i
    → before ++ flat_map f (take i xs) ≡ before ++ flat_map f xs
flat-all f before xs i h = ap (λ ys. before ++ flat_map f ys) (take_all i xs h)

pub flat-map : {A B C : Type 0} (f : B → List C) (g : A → B) (xs : List A) → flat_map (λ x. f (g x)) xs ≡ flat_map f (map g xs)
flat-map f g [] = refl
flat-map f g (x ∷ xs) = ap (λ ys. f (g x) ++ ys) (flat-map f g xs)

kept-flat : {A : Type 0} (only : Option Want) (f : A → List Way) (xs : List A) → kept only (flat_map f xs) ≡ flat_map (λ x. kept only (f x)) xs
kept-flat only f [] = refl
kept-flat only f (x ∷ xs) = kept-append only (f x) (flat_map f xs) ∙ ap (λ ys. kept only (f x) ++ ys) (kept-flat only f xs)

abbrev pub spelled_by : Option Want → Space → ℕ → Member → List Way
spelled_by only space set m = kept only (spells_in (space_of space).info set (member_of m))

pub ways-end : (only : Option Want) (space : Space) (set : ℕ) (order : List KeyOrder) (xs : List Member) (i : ℕ) → xs ≡ space.members.now → length xs ≤ i
    → kept only (converters set order) ++ flat_map (spelled_by only space set) (take i xs) ≡ kept only (ways (space_of space) set order)
ways-end only space set order xs i e h =
    flat-all (spelled_by only space set) (kept only (converters set order)) xs i h
    ∙ ap (λ ms. kept only (converters set order) ++ ms)
    (ap (flat_map (spelled_by only space set)) e
    ∙ flat-map (λ m. kept only (spells_in (space_of space).info set m)) member_of space.members.now
    ∙ sym (kept-flat only (spells_in (space_of space).info set) (space_of space).members))
    ∙ sym (kept-append only (converters set order) (flat_map (spells_in (space_of space).info set) (space_of space).members))

pub ruleset way_steps = (flat-next, flat-all, kept-meets)

pub ruleset all_steps = (kept-all)
