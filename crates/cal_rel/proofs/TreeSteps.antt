-- What a tree is at each variant.
use Rattle.std.proofs.Common.{◌≡◌, ℕ, List, Option, Some, Result, IfOk, sym, ◌∙◌, ap, subst}
use Rattle.cal_value.specs.declared.kind.SqlType.{SqlType}
use Rattle.cal_expr.specs.declared.expr.Expr.{Expr}
use Rattle.cal_schema.specs.declared.agg_call.AggCall.{AggCall}
use Rattle.cal_schema.specs.declared.join_kind.JoinKind.{JoinKind}
use Rattle.cal_schema.specs.declared.rel_type.RelType.{RelType}
use Rattle.cal_rel.specs.declared.rel.Rel.{Rel}
use Rattle.cal_rel.specs.declared.rel.Rel.TheOpen.{Rel-F}
use Rattle.cal_rel.specs.declared.rel.Rel.TheFolds.{fold-roll-Rel}
use Rattle.cal_rel.specs.declared.rel.Rel.TheVariants as r
use Rattle.cal_rel.specs.declared.rel.Rel.TheVariants.{rolls-Scan, rolls-TileScan, rolls-StarScan, rolls-Filter, rolls-Project, rolls-Join, rolls-Aggregate, rolls-Empty, rolls-Hole}
use Rattle.cal_rel.specs.Info.{Info}
use Rattle.cal_rel.specs.Typing.{type_of, binary_type, of_both}
use Rattle.cal_rel.specs.Tree.{Tree, scan, tile_scan, star_scan, empty_of, filter_by, project_to, aggregate_by, join_on, leaf, unary, binary, hole, tree_of, tree_step}

pub tree-Scan : (table : ℕ) → tree_of (r.Scan table) ≡ leaf (scan table)
unfolding tree_of
tree-Scan table = ap tree_of (sym (rolls-Scan table)) ∙ fold-roll-Rel Tree tree_step (Rel-F.Scan table)

pub tree-TileScan : (at : ℕ) → tree_of (r.TileScan at) ≡ leaf (tile_scan at)
unfolding tree_of
tree-TileScan at = ap tree_of (sym (rolls-TileScan at)) ∙ fold-roll-Rel Tree tree_step (Rel-F.TileScan at)

pub tree-StarScan : (lattice : ℕ) → tree_of (r.StarScan lattice) ≡ leaf (star_scan lattice)
unfolding tree_of
tree-StarScan lattice = ap tree_of (sym (rolls-StarScan lattice)) ∙ fold-roll-Rel Tree tree_step (Rel-F.StarScan lattice)

pub tree-Filter : (t : Rel) (predicate : Expr) → tree_of (r.Filter t predicate) ≡ unary (filter_by predicate) (tree_of t)
unfolding tree_of
tree-Filter t predicate = ap tree_of (sym (rolls-Filter t predicate)) ∙ fold-roll-Rel Tree tree_step (Rel-F.Filter t predicate)

pub tree-Project : (t : Rel) (items : List Expr) → tree_of (r.Project t items) ≡ unary (project_to items) (tree_of t)
unfolding tree_of
tree-Project t items = ap tree_of (sym (rolls-Project t items)) ∙ fold-roll-Rel Tree tree_step (Rel-F.Project t items)

pub tree-Join : (kind : JoinKind) (a b : Rel) (on : Expr) → tree_of (r.Join kind a b on) ≡ binary (join_on kind on) (tree_of a) (tree_of b)
unfolding tree_of
tree-Join kind a b on = ap tree_of (sym (rolls-Join kind a b on)) ∙ fold-roll-Rel Tree tree_step (Rel-F.Join kind a b on)

pub tree-Aggregate : (t : Rel) (groups : List ℕ) (calls : List AggCall) → tree_of (r.Aggregate t groups calls) ≡ unary (aggregate_by groups calls) (tree_of t)
unfolding tree_of
tree-Aggregate t groups calls = ap tree_of (sym (rolls-Aggregate t groups calls)) ∙ fold-roll-Rel Tree tree_step (Rel-F.Aggregate t groups calls)

pub tree-Empty : (types : List SqlType) → tree_of (r.Empty types) ≡ leaf (empty_of types)
unfolding tree_of
tree-Empty types = ap tree_of (sym (rolls-Empty types)) ∙ fold-roll-Rel Tree tree_step (Rel-F.Empty types)

pub tree-Hole : (set : ℕ) → tree_of (r.Hole set) ≡ hole set
unfolding tree_of
tree-Hole set = ap tree_of (sym (rolls-Hole set)) ∙ fold-roll-Rel Tree tree_step (Rel-F.Hole set)

-- the type of a join, from the types of its sides
pub join-typed : {E : Type 0} (info : Info) (rel left right : Rel) (kind : JoinKind) (on : Expr) (s t : RelType) (o : Result (Option RelType) E) → rel ≡ r.Join kind left right on
    → Some s ≡ type_of info (tree_of left) → Some t ≡ type_of info (tree_of right) → IfOk o (λ u. u ≡ binary_type info (join_on kind on) (tree_of left) (tree_of right) s t)
    → IfOk o (λ u. u ≡ type_of info (tree_of rel))
join-typed info rel left right kind on s t o is first second h =
    subst (λ x. IfOk o (λ u. u ≡ type_of info x)) (sym (ap tree_of is ∙ tree-Join kind left right on))
    (subst (λ x. IfOk o (λ u. u ≡ of_both (binary_type info (join_on kind on) (tree_of left) (tree_of right)) x (type_of info (tree_of right)))) first
    (subst (λ y. IfOk o (λ u. u ≡ of_both (binary_type info (join_on kind on) (tree_of left) (tree_of right)) (Some s) y)) second h))

pub ruleset tree_steps = (tree-Scan, tree-TileScan, tree-StarScan, tree-Filter, tree-Project, tree-Join, tree-Aggregate, tree-Empty, tree-Hole)
