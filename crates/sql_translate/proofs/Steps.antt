-- What the walks over a tree put together.
use Rattle.std.proofs.Common.{◌≡◌, ◌==◌, ◌∙◌, ℕ, Bool, true, false, cond, refl, ap, sym, List, [], ◌∷◌, ◌++◌, length, map, fold, filter_map, Option, Some, None, option_map, unwrap_or}
use mathlib.Core.Path.{ap₂}
use Rattle.std.proofs.lemmas.List.Sums.{fold-append}
use Rattle.std.proofs.lemmas.Bool.Decides.{Decides-eqb}
use Rattle.std.specs.List.{flat_map}
use Rattle.std.proofs.lemmas.Grind.{flat_map-append}
use Rattle.std.proofs.lemmas.List.Folds.{flat_map-map}
use Rattle.cal_aggregate.specs.Parts.{distinct}
use Rattle.cal_value.specs.declared.operator.Agg.{Agg}
use Rattle.cal_expr.specs.declared.expr.Expr.{Expr}
use Rattle.cal_expr.specs.declared.expr.Expr.TheVariants.{Column}
use Rattle.cal_expr.specs.Equal.{expr_eq}
use Rattle.cal_expr.specs.EqualLaws.{expr_eq-Decides}
use Rattle.cal_schema.specs.declared.agg_call.AggCall.{AggCall}
use Rattle.cal_rel.specs.declared.rel.Rel.{Rel}
use Rattle.cal_rel.specs.declared.rel.Rel.TheVariants as r
use Rattle.cal_rel.specs.Tree.{unary, project_to, aggregate_by, tree_of}
use Rattle.cal_rel.proofs.TreeSteps.{tree-Aggregate, tree-Project}
use Rattle.sql_tree.specs.declared.select.Select.{Select}
use Rattle.sql_tree.specs.declared.tree.Tree.{Tree}
use Rattle.sql_meaning.specs.Parts.{item_trees, listed}
use Rattle.sql_meaning.specs.Scope.{Header}
use Rattle.sql_to_rel.specs.Numbered.{numbered}
use Rattle.sql_algebra.specs.declared.layout.ExprCall.{ExprCall}
use Rattle.sql_algebra.specs.declared.layout.Layout.{Layout}
use Rattle.sql_algebra.specs.Algebra.{placed, same_call, layout_of, inputs, call_of, call_over, column_in, place_among, aggregate_at, over_project}
use Rattle.sql_algebra.proofs.Calls.{same_call-Decides, column_in-Column}
use Rattle.sql_algebra.proofs.GroupTypes.{placed-row}
use Rattle.sql_translate.specs.Once.{with_each}
use Rattle.sql_translate.proofs.Once.{each-once}

-- in two steps, as in one
pub each-append : {K : Type 0} (same : K → K → Bool) (zs xs ys : List K) → with_each same (with_each same zs xs) ys ≡ with_each same zs (xs ++ ys)
each-append same zs xs ys = sym (fold-append _ zs xs ys)

pub calls-once : (scope : List Header) (select : Select) (calls all : List ExprCall) → calls ≡ with_each same_call [] (flat_map (λ tree. (placed scope tree).calls) (item_trees select.items))
    → all ≡ with_each same_call calls (flat_map (λ tree. (placed scope tree).calls) (listed select.having)) → all ≡ (layout_of scope select).calls
calls-once scope select calls all e f =
    let g : Tree → List ExprCall = λ tree. (placed scope tree).calls in
    f
    ∙ ap (λ cs. with_each same_call cs (flat_map g (listed select.having))) e
    ∙ each-append same_call [] (flat_map g (item_trees select.items)) (flat_map g (listed select.having))
    ∙ each-once same_call same_call-Decides (flat_map g (item_trees select.items) ++ flat_map g (listed select.having))
    ∙ ap (distinct same_call) (sym (flat_map-append g (item_trees select.items) (listed select.having)))

pub columns-once : (columns groups : List ℕ) → groups ≡ with_each ◌==◌ [] columns → groups ≡ distinct ◌==◌ columns
columns-once columns groups e = e ∙ each-once ◌==◌ Decides-eqb columns

pub inputs-once : (layout : Layout) (exprs all : List Expr) → exprs ≡ with_each expr_eq [] (map Column layout.groups) → all ≡ with_each expr_eq exprs (flat_map (λ call. listed call.argument) layout.calls) → all ≡ inputs layout
inputs-once layout exprs all e f =
    f
    ∙ ap (λ es. with_each expr_eq es (flat_map (λ (call : ExprCall). listed call.argument) layout.calls)) e
    ∙ each-append expr_eq [] (map Column layout.groups) (flat_map (λ (call : ExprCall). listed call.argument) layout.calls)
    ∙ each-once expr_eq expr_eq-Decides (map Column layout.groups ++ flat_map (λ (call : ExprCall). listed call.argument) layout.calls)

pub over-project : (layout : Layout) (t p rel : Rel) (exprs : List Expr) (groups : List ℕ) (calls : List AggCall) → exprs ≡ inputs layout → p ≡ r.Project t exprs
    → groups ≡ map (λ column. place_among expr_eq (Column column) exprs) layout.groups → calls ≡ map (call_over (λ e. place_among expr_eq e exprs)) layout.calls → rel ≡ r.Aggregate p groups calls
    → tree_of rel ≡ over_project layout (tree_of t)
over-project layout t p rel exprs groups calls are projected eg ec made =
    ap tree_of made
    ∙ tree-Aggregate p groups calls
    ∙ ap₂ (λ gs cs. unary (aggregate_by gs cs) (tree_of p))
    (eg ∙ ap (λ es. map (λ column. place_among expr_eq (Column column) es) layout.groups) are)
    (ec ∙ ap (λ es. map (call_over (λ e. place_among expr_eq e es)) layout.calls) are)
    ∙ ap (aggregate_at (λ e. place_among expr_eq e (inputs layout)) layout) (ap tree_of projected ∙ tree-Project t exprs ∙ ap (λ es. unary (project_to es) (tree_of t)) are)

pub ruleset once_rules = (calls-once, columns-once, inputs-once)

call_with : Agg → Expr → ExprCall
call_with agg e = record { agg = agg; argument = Some e }

pub call-some : (scope : List Header) (agg : Agg) (argument : Option Tree) (tree : Tree) (e : Expr) → argument ≡ Some tree → e ≡ numbered scope tree → record { agg = agg; argument = Some e } ≡ call_of agg (option_map (placed scope) argument)
unfolding call_with
call-some scope agg argument tree e is made =
    ap (call_with agg) (made ∙ sym (placed-row scope tree)) ∙ ap (λ o. call_of agg (option_map (placed scope) o)) (sym is)

pub own-groups : (groups : List ℕ) → map (λ column. unwrap_or (column_in (Column column)) 0) groups ≡ groups
own-groups [] = refl
own-groups (column ∷ groups) = ap₂ (λ g gs. unwrap_or g 0 ∷ gs) (column_in-Column column) (own-groups groups)

pub ruleset map_rules = (flat_map-map)
