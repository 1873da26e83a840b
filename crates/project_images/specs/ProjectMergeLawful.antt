-- ProjectMerge is lawful. For proofs alone.
use Rattle.std.proofs.Common.{◌≡◌, ℕ, ◌<◌, true, List, [], ◌∷◌, map, length, All, Some, refl, sym, ◌∙◌, ap, subst}
use mathlib.Core.Path.{ap₂}
use Rattle.cal_value.specs.declared.kind.SqlType.{SqlType}
use Rattle.cal_value.specs.declared.value.Value.{Value}
use Rattle.cal_value.proofs.TypeLemmas.{some_is}
use Rattle.cal_schema.specs.declared.database.Db.{Db}
use Rattle.cal_schema.specs.declared.rel_type.RelType.{RelType}
use Rattle.cal_expr.specs.declared.expr.Expr.{Expr}
use Rattle.cal_expr.specs.Meaning.{meaning_of}
use Rattle.cal_expr.specs.Typing as expressions
use Rattle.expr_parts.specs.Columns.{columns_read, over_items}
use Rattle.expr_parts.proofs.ColumnLaws.{over_items-mean, well_formed-reads}
use Rattle.cal_rel.specs.Bag.{bag}
use Rattle.cal_rel.specs.Holes.{renumbered, EachHole}
use Rattle.cal_rel.specs.Info.{Info}
use Rattle.cal_rel.specs.Operators.{Row, projected}
use Rattle.cal_rel.specs.Tree.{filter_by, project_to, aggregate_by, Tree, leaf, unary, binary, hole}
use Rattle.cal_rel.specs.Typing.{types_by, of_columns, project_type, type_of}
use Rattle.cal_rel.proofs.RowLemmas.{of_both-some, types_by-length}
use Rattle.cal_rel.proofs.TrueTypes.{option_map-some, and_then-some}
use Rattle.rule_hep.specs.Local.{IsLocal}
use Rattle.project_images.specs.EmptyLaws.{same-rows}
use Rattle.project_images.specs.ProjectMerge.{merged_projects}

-- ---- rows

item-merged : (lower : List Expr) (ts : List SqlType) (item : Expr) (t : SqlType) (row : Row) → length ts ≡ length lower → expressions.type_of item ts ≡ Some t
    → meaning_of (over_items lower item) row ≡ meaning_of item (projected lower row)
item-merged lower ts item t row e f = over_items-mean lower item row (subst (λ n. All (λ at. at < n) (columns_read item)) e (well_formed-reads item ts t f))

items-merged : (lower : List Expr) (ts : List SqlType) (row : Row) → length ts ≡ length lower → (upper : List Expr) (us : List SqlType) → types_by (λ item. expressions.type_of item ts) upper ≡ Some us
    → projected (map (over_items lower) upper) row ≡ projected upper (projected lower row)
items-merged lower ts row e [] us f = refl
items-merged lower ts row e (item ∷ upper) us f =
    let b = of_both-some (λ t ts. Some (t ∷ ts)) (expressions.type_of item ts) (types_by (λ item. expressions.type_of item ts) upper) us f in
    ap₂ (λ (v : Value) vs. v ∷ vs) (item-merged lower ts item b.first row e b.first_is) (items-merged lower ts row e upper b.second b.second_is)

rows-merged : (lower upper : List Expr) (ts us : List SqlType) (rows : List Row) → length ts ≡ length lower → types_by (λ item. expressions.type_of item ts) upper ≡ Some us
    → map (projected (map (over_items lower) upper)) rows ≡ map (projected upper) (map (projected lower) rows)
rows-merged lower upper ts us [] e f = refl
rows-merged lower upper ts us (row ∷ rows) e f = ap₂ (λ (r : Row) rs. r ∷ rs) (items-merged lower ts row e upper us f) (rows-merged lower upper ts us rows e f)

-- ---- the law

-- a rewritten tree is one project over another
pub record IsMerge (rel out : Tree) : Type 0 where
  pub upper : List Expr
  pub lower : List Expr
  pub input : Tree
  pub from : rel ≡ unary (project_to upper) (unary (project_to lower) input)
  pub is : unary (project_to (map (over_items lower) upper)) input ≡ out

merge-is : (rel out : Tree) → merged_projects rel ≡ Some out → IsMerge rel out
merge-is (leaf l) out e = absurd (cc)
merge-is (unary (filter_by predicate) t) out e = absurd (cc)
merge-is (unary (project_to upper) (leaf l)) out e = absurd (cc)
merge-is (unary (project_to upper) (unary (filter_by predicate) t)) out e = absurd (cc)
merge-is (unary (project_to upper) (unary (project_to lower) t)) out e =
    record { upper = upper; lower = lower; input = t; from = refl; is = some_is (unary (project_to (map (over_items lower) upper)) t) out e }
merge-is (unary (project_to upper) (unary (aggregate_by groups calls) t)) out e = absurd (cc)
merge-is (unary (project_to upper) (binary b s t)) out e = absurd (cc)
merge-is (unary (project_to upper) (hole set)) out e = absurd (cc)
merge-is (unary (aggregate_by groups calls) t) out e = absurd (cc)
merge-is (binary b s t) out e = absurd (cc)
merge-is (hole set) out e = absurd (cc)

merge-rows : (info : Info) (rel out : Tree) (s : RelType) (db : Db) (holes : ℕ → List Row) → type_of info rel ≡ Some s → merged_projects rel ≡ Some out → bag info db holes out ≡ bag info db holes rel
merge-rows info rel out s db holes over e =
    let is = merge-is rel out e in
    let whole = ap (type_of info) (sym is.from) ∙ over in
    let upper = and_then-some (project_type is.upper) (type_of info (unary (project_to is.lower) is.input)) s whole in
    let lower = and_then-some (project_type is.lower) (type_of info is.input) upper.from upper.found in
    let items = option_map-some (of_columns upper.from.bound) (types_by (λ item. expressions.type_of item upper.from.columns) is.upper) s upper.is in
    let below = option_map-some (of_columns lower.from.bound) (types_by (λ item. expressions.type_of item lower.from.columns) is.lower) upper.from lower.is in
    let long = ap (λ (t : RelType). length t.columns) (sym below.is) ∙ types_by-length (λ item. expressions.type_of item lower.from.columns) is.lower below.from below.found in
    ap (bag info db holes) (sym is.is) ∙ rows-merged is.lower is.upper upper.from.columns items.from (bag info db holes is.input) long items.found ∙ ap (bag info db holes) (sym is.from)

merge-sets : (P : ℕ → Type 0) (rel out : Tree) → merged_projects rel ≡ Some out → EachHole P rel → EachHole P out
merge-sets P rel out e each = let is = merge-is rel out e in subst (EachHole P) is.is (subst (EachHole P) is.from each)

merge-steady : (m : ℕ → ℕ) (rel out : Tree) → merged_projects rel ≡ Some out → merged_projects (renumbered m rel) ≡ Some (renumbered m out)
merge-steady m rel out e = let is = merge-is rel out e in ap (λ t. merged_projects (renumbered m t)) is.from ∙ ap (λ t. Some (renumbered m t)) is.is

pub project_merge-local : IsLocal (λ info rel. merged_projects rel)
project_merge-local = record {
  sets = λ info rel out p e each. merge-sets (λ k. p k ≡ true) rel out e each;
  means = λ info rel out s t over well e db holes fits true_of. same-rows (bag info db holes out) (bag info db holes rel) (merge-rows info rel out s db holes over e);
  steady = λ m from to rel out t valid narrows over e. merge-steady m rel out e;
}
