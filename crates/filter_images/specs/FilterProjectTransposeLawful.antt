-- FilterProjectTranspose is lawful: over a row the predicate with items in the place of columns is what it is over their values.
use Rattle.std.proofs.Common.{◌≡◌, ℕ, ◌<◌, true, false, List, map, filter, length, All, Option, Some, None, unwrap_or, refl, sym, ◌∙◌, ap, subst}
use Rattle.std.specs.Option.{option_map}
use Rattle.std.proofs.lemmas.List.Elements.{filter_agree}
use Rattle.std.proofs.lemmas.Option.{cond_some}
use Rattle.cal_value.specs.declared.kind.SqlType.{SqlType}
use Rattle.cal_value.specs.Logic.{is_true}
use Rattle.cal_value.specs.Types.{is_boolean}
use Rattle.cal_expr.specs.declared.expr.Expr.{Expr}
use Rattle.cal_expr.specs.Typing as expressions
use Rattle.cal_schema.specs.declared.database.Db.{Db}
use Rattle.cal_schema.specs.declared.rel_type.RelType.{RelType}
use Rattle.cal_rel.specs.Bag.{bag, width}
use Rattle.cal_rel.specs.Holes.{renumbered, EachHole}
use Rattle.cal_rel.specs.Info.{Info}
use Rattle.cal_rel.specs.Operators.{Row, holds, projected}
use Rattle.cal_rel.specs.Tree.{Tree, filter_by, project_to, unary}
use Rattle.cal_rel.specs.Typing.{is_condition, unary_type, type_of}
use Rattle.cal_rel.proofs.Reorders.{filter-map}
use Rattle.cal_rel.proofs.TrueTypes.{and_then-some, type-width}
use Rattle.expr_parts.specs.Columns.{columns_read, over_items}
use Rattle.expr_parts.proofs.ColumnLaws.{over_items-mean, well_formed-reads}
use Rattle.rule_hep.specs.Local.{IsLocal}
use Rattle.filter_images.specs.FilterProjectTranspose.{filter_below_project}
use Rattle.filter_images.specs.FilteredLemmas.{SameBag-same}

-- ---- the predicate reads columns of the project alone

-- the type, which is there where it is BOOLEAN
boolean-there : (o : Option SqlType) → unwrap_or (option_map is_boolean o) false ≡ true → (t : SqlType) × (o ≡ Some t)
boolean-there None e = absurd (cc)
boolean-there (Some t) e = (t, refl)

condition-reads : (predicate : Expr) (columns : List SqlType) → is_condition predicate columns ≡ true → All (λ at. at < length columns) (columns_read predicate)
condition-reads predicate columns e =
    let t = boolean-there (expressions.type_of predicate columns) e in
    well_formed-reads predicate columns t.0 t.1

-- a filter reads columns of its input alone
filter-reads : (info : Info) (predicate : Expr) (t : Tree) (s : RelType) → type_of info (unary (filter_by predicate) t) ≡ Some s → All (λ at. at < width info t) (columns_read predicate)
filter-reads info predicate t s e =
    let m = and_then-some (unary_type (filter_by predicate)) (type_of info t) s e in
    let c = cond_some (is_condition predicate m.from.columns) m.from s m.is in
    subst (λ n. All (λ at. at < n) (columns_read predicate)) (type-width info t m.from m.found) (condition-reads predicate m.from.columns c.0)

-- ---- the rows

below-bag : (info : Info) (db : Db) (holes : ℕ → List Row) (predicate : Expr) (items : List Expr) (t : Tree) → All (λ at. at < length items) (columns_read predicate)
    → bag info db holes (unary (project_to items) (unary (filter_by (over_items items predicate)) t)) ≡ filter (holds predicate) (map (projected items) (bag info db holes t))
below-bag info db holes predicate items t reads =
    ap (map (projected items)) (filter_agree (holds (over_items items predicate)) (λ row. holds predicate (projected items row)) (λ row. ap is_true (over_items-mean items predicate row reads)) (bag info db holes t))
    ∙ sym (filter-map (holds predicate) (projected items) (bag info db holes t))

-- ---- the rule

below-sets : (P : ℕ → Type 0) (rel out : Tree) → filter_below_project rel ≡ Some out → EachHole P rel → EachHole P out
below-sets P (unary (filter_by predicate) (unary (project_to items) t)) out e h =
    let is : unary (project_to items) (unary (filter_by (over_items items predicate)) t) ≡ out = cc in
    subst (EachHole P) is h
below-sets P _ out e h = absurd (cc)

below-means : (info : Info) (db : Db) (holes : ℕ → List Row) (rel out : Tree) (s : RelType) → type_of info rel ≡ Some s → filter_below_project rel ≡ Some out
    → bag info db holes out ≡ bag info db holes rel
below-means info db holes (unary (filter_by predicate) (unary (project_to items) t)) out s typed e =
    let is : unary (project_to items) (unary (filter_by (over_items items predicate)) t) ≡ out = cc in
    ap (bag info db holes) (sym is) ∙ below-bag info db holes predicate items t (filter-reads info predicate (unary (project_to items) t) s typed)
below-means info db holes _ out s typed e = absurd (cc)

below-steady : (m : ℕ → ℕ) (rel out : Tree) → filter_below_project rel ≡ Some out → filter_below_project (renumbered m rel) ≡ Some (renumbered m out)
below-steady m (unary (filter_by predicate) (unary (project_to items) t)) out e =
    let is : unary (project_to items) (unary (filter_by (over_items items predicate)) t) ≡ out = cc in
    ap (λ x. Some (renumbered m x)) is
below-steady m _ out e = absurd (cc)

pub local_filter_below_project : IsLocal (λ info rel. filter_below_project rel)
local_filter_below_project = record {
  sets = λ info rel out p e h. below-sets (λ k. p k ≡ true) rel out e h;
  means = λ info rel out s t typed made e db holes fits true_of. SameBag-same (bag info db holes out) (bag info db holes rel) (below-means info db holes rel out s typed e);
  steady = λ m from to rel out t valid narrows typed e. below-steady m rel out e;
}
