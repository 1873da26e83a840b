-- ProjectRemove is lawful. For proofs alone.
use Rattle.std.proofs.Common.{◌≡◌, ℕ, suc, ◌==◌, true, cond, List, [], ◌∷◌, ◌++◌, map, length, Some, None, refl, sym, ◌∙◌, ap, subst, arith, append_assoc, length-append}
use mathlib.Core.Path.{ap₂}
use Rattle.std.proofs.lemmas.Bool.Decides.{nat_tests}
use Rattle.std.proofs.lemmas.List.Elements.{All-weaker}
use Rattle.std.proofs.lemmas.List.Folds.{map_fixed}
use Rattle.cal_value.specs.declared.value.Value.{Value}
use Rattle.cal_value.specs.Order.{column_of}
use Rattle.cal_value.specs.Types.{HasTypes}
use Rattle.cal_value.proofs.TypeLemmas.{some_is, split_if, and-both}
use Rattle.cal_schema.specs.declared.database.Db.{Db}
use Rattle.cal_schema.specs.declared.rel_type.RelType.{RelType}
use Rattle.cal_schema.specs.Fits.{Fits}
use Rattle.cal_schema.specs.Valid.{IsValidSchema}
use Rattle.cal_expr.specs.declared.expr.Expr.{Expr}
use Rattle.cal_expr.specs.declared.expr.Expr.TheVariants.{Column}
use Rattle.cal_expr.specs.Equal.{expr_eq}
use Rattle.cal_expr.specs.EqualLaws.{expr_eq-Decides}
use Rattle.cal_expr.specs.Meaning.{meaning_of}
use Rattle.expr_parts.proofs.ExprSteps.{meaning-Column}
use Rattle.cal_rel.specs.Bag.{bag, width}
use Rattle.cal_rel.specs.Holes.{renumbered, EachHole, Narrows}
use Rattle.cal_rel.specs.Info.{Info}
use Rattle.cal_rel.specs.Meaning.{AreTrueOf}
use Rattle.cal_rel.specs.Operators.{Row, projected}
use Rattle.cal_rel.specs.Tree.{filter_by, project_to, aggregate_by, Tree, leaf, unary, binary, hole}
use Rattle.cal_rel.specs.Typing.{project_type, type_of}
use Rattle.cal_rel.proofs.Narrower.{wide-length, type-narrow}
use Rattle.cal_rel.proofs.RowLemmas.{types-length}
use Rattle.cal_rel.proofs.TrueTypes.{and_then-some, type-width, type-true}
use Rattle.rule_hep.specs.Local.{IsLocal}
use Rattle.project_images.specs.EmptyLaws.{same-rows}
use Rattle.project_images.specs.ProjectRemove.{are_columns_from, is_all_columns, removed_project}

-- ---- rows

column-behind : (before row : Row) (v : Value) → column_of (before ++ v ∷ row) (length before) ≡ v
column-behind [] row v = refl
column-behind (w ∷ before) row v = column-behind before row v

-- the columns behind a first part are the rest of the row
rest-kept : (items : List Expr) (before row : Row) → are_columns_from (length before) items ≡ true → length items ≡ length row → map (λ item. meaning_of item (before ++ row)) items ≡ row
rest-kept [] before [] e n = refl
rest-kept [] before (v ∷ row) e n = absurd (omega arith)
rest-kept (item ∷ items) before [] e n = absurd (omega arith)
rest-kept (item ∷ items) before (v ∷ row) e n =
    let both = and-both (expr_eq item (Column (length before))) (are_columns_from (suc (length before)) items) e in
    let long : suc (length before) ≡ length (before ++ v ∷ []) = grind (arith, length-append before (v ∷ [])) in
    let here = ap (λ item. meaning_of item (before ++ v ∷ row)) ((expr_eq-Decides item (Column (length before))).0 both.0) ∙ meaning-Column (length before) (before ++ v ∷ row) ∙ column-behind before row v in
    let rest = rest-kept items (before ++ v ∷ []) row (ap (λ k. are_columns_from k items) (sym long) ∙ both.1) (omega arith) in
    let joined : before ++ v ∷ [] ++ row ≡ before ++ v ∷ row = append_assoc before (v ∷ []) row in
    ap₂ (λ (w : Value) ws. w ∷ ws) here (ap (λ r. map (λ item. meaning_of item r) items) (sym joined) ∙ rest)

row-kept : (items : List Expr) (columns : ℕ) (row : Row) → is_all_columns columns items ≡ true → length row ≡ columns → projected items row ≡ row
row-kept items columns row e n =
    let both = and-both (length items == columns) (are_columns_from 0 items) e in
    let h = both.0 in
    let long : length items ≡ columns = grind (arith, nat_tests) in
    rest-kept items [] row both.1 (long ∙ sym n)

-- ---- the law

pub record IsRemoval (info : Info) (rel out : Tree) : Type 0 where
  pub items : List Expr
  pub from : rel ≡ unary (project_to items) out
  pub all : is_all_columns (width info out) items ≡ true

removal-is : (info : Info) (rel out : Tree) → removed_project info rel ≡ Some out → IsRemoval info rel out
removal-is info (leaf l) out e = absurd (cc)
removal-is info (unary (filter_by predicate) t) out e = absurd (cc)
removal-is info (unary (project_to items) t) out e =
    let both = split_if (is_all_columns (width info t) items) (Some t) out e in
    let same = some_is t out both.1 in
    record { items = items; from = ap (unary (project_to items)) same; all = ap (λ t. is_all_columns (width info t) items) (sym same) ∙ both.0 }
removal-is info (unary (aggregate_by groups calls) t) out e = absurd (cc)
removal-is info (binary b s t) out e = absurd (cc)
removal-is info (hole set) out e = absurd (cc)

removal-rows : (info : Info) (rel out : Tree) (t : RelType) (db : Db) (holes : ℕ → List Row) → Fits db info.schema → AreTrueOf info.sets holes → type_of info out ≡ Some t
    → removed_project info rel ≡ Some out → bag info db holes out ≡ bag info db holes rel
removal-rows info rel out t db holes fits true_of well e =
    let is = removal-is info rel out e in
    let wide = type-width info out t well in
    sym (map_fixed (projected is.items) (bag info db holes out)
    (All-weaker (λ row. HasTypes row t.columns) (λ row. projected is.items row ≡ row)
    (λ row h. row-kept is.items (width info out) row is.all (types-length row t.columns h ∙ wide)) (bag info db holes out) ((type-true info db holes out t fits true_of well).typed)))
    ∙ ap (bag info db holes) (sym is.from)

removal-sets : (info : Info) (P : ℕ → Type 0) (rel out : Tree) → removed_project info rel ≡ Some out → EachHole P rel → EachHole P out
removal-sets info P rel out e each = subst (EachHole P) (removal-is info rel out e).from each

width-steady : (m : ℕ → ℕ) (from to : Info) (tree : Tree) (t : RelType) → IsValidSchema from.schema → Narrows m from to → type_of from tree ≡ Some t → width to (renumbered m tree) ≡ width from tree
width-steady m from to tree t valid narrows e =
    let narrow = type-narrow m from to tree t valid narrows e in
    sym (type-width to (renumbered m tree) narrow.found narrow.is) ∙ wide-length narrow.found.columns t.columns narrow.within.columns ∙ type-width from tree t e

removal-steady : (m : ℕ → ℕ) (from to : Info) (rel out : Tree) (t : RelType) → IsValidSchema from.schema → Narrows m from to → type_of from rel ≡ Some t
    → removed_project from rel ≡ Some out → removed_project to (renumbered m rel) ≡ Some (renumbered m out)
removal-steady m from to rel out t valid narrows over e =
    let is = removal-is from rel out e in
    let input = and_then-some (project_type is.items) (type_of from out) t (ap (type_of from) (sym is.from) ∙ over) in
    let wide = width-steady m from to out input.from valid narrows input.found in
    ap (λ t. removed_project to (renumbered m t)) is.from
    ∙ ap (λ b. cond b (Some (renumbered m out)) None) (ap (λ k. is_all_columns k is.items) wide ∙ is.all)

pub project_remove-local : IsLocal removed_project
project_remove-local = record {
  sets = λ info rel out p e each. removal-sets info (λ k. p k ≡ true) rel out e each;
  means = λ info rel out s t over well e db holes fits true_of. same-rows (bag info db holes out) (bag info db holes rel) (removal-rows info rel out t db holes fits true_of well e);
  steady = λ m from to rel out t valid narrows over e. removal-steady m from to rel out t valid narrows over e;
}
