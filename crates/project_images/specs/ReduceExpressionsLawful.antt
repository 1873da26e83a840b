-- ReduceExpressions is lawful. For proofs alone.
use Rattle.std.proofs.Common.{◌≡◌, ℕ, Bool, true, false, cond, List, [], ◌∷◌, map, filter, Option, Some, None, refl, sym, ◌∙◌, ap, subst}
use mathlib.Core.Path.{ap₂}
use Rattle.std.specs.Cmp.Lexicographic.{pointwise}
use Rattle.std.proofs.lemmas.List.Elements.{filter_agree}
use Rattle.cal_value.specs.declared.value.Value.TheVariants.{Bool as BoolValue}
use Rattle.cal_value.specs.Logic.{is_true}
use Rattle.cal_value.proofs.TypeLemmas.{some_is}
use Rattle.cal_schema.specs.declared.database.Db.{Db}
use Rattle.cal_schema.specs.Valid.{IsValidSchema}
use Rattle.cal_expr.specs.declared.expr.Expr.{Expr}
use Rattle.cal_expr.specs.declared.expr.Expr.TheVariants.{Literal}
use Rattle.cal_expr.specs.Equal.{expr_eq}
use Rattle.cal_expr.specs.EqualLaws.{expr_eq-Decides}
use Rattle.cal_expr.specs.Meaning.{meaning_of}
use Rattle.expr_parts.proofs.ExprSteps.{meaning-Literal}
use Rattle.cal_rel.specs.Bag.{bag}
use Rattle.cal_rel.specs.Holes.{renumbered, EachHole, Narrows}
use Rattle.cal_rel.specs.Info.{Info}
use Rattle.cal_rel.specs.Operators.{Row, holds, projected}
use Rattle.cal_rel.specs.Tree.{filter_by, project_to, aggregate_by, Tree, leaf, unary, binary, hole}
use Rattle.rule_hep.specs.Local.{IsLocal}
use Rattle.project_images.specs.Empties.{empty_for}
use Rattle.project_images.specs.EmptyLaws.{same-rows, empty-sets, empty-rows, empty-steady}
use Rattle.project_images.specs.ReduceExpressions.{reduced, is_literal, reduced_filter, reduced_project, reduced_tree}
use Rattle.project_images.specs.ReducedMeaning.{reduced-means, reduced-projected}

-- ---- filters by a literal

literal-is : (b : Bool) (e : Expr) → is_literal b e ≡ true → e ≡ Literal (BoolValue b)
literal-is b e h = (expr_eq-Decides e (Literal (BoolValue b))).0 h

-- the reduced predicate holds where the predicate does
reduced-holds : (predicate : Expr) (row : Row) → holds (reduced predicate) row ≡ holds predicate row
reduced-holds predicate row = ap is_true (reduced-means predicate row)

literal-holds : (b : Bool) (predicate : Expr) (row : Row) → is_literal b (reduced predicate) ≡ true → holds predicate row ≡ b
literal-holds b predicate row h =
    sym (reduced-holds predicate row) ∙ ap (λ e. is_true (meaning_of e row)) (literal-is b (reduced predicate) h) ∙ ap is_true (meaning-Literal (BoolValue b) row)

all-kept : (rows : List Row) → filter (λ row. true) rows ≡ rows
all-kept [] = refl
all-kept (row ∷ rows) = ap (λ rs. row ∷ rs) (all-kept rows)

none-kept : (rows : List Row) → filter (λ row. false) rows ≡ []
none-kept [] = refl
none-kept (row ∷ rows) = none-kept rows

true-kept : (predicate : Expr) (rows : List Row) → is_literal true (reduced predicate) ≡ true → filter (holds predicate) rows ≡ rows
true-kept predicate rows h = filter_agree (holds predicate) (λ row. true) (λ row. literal-holds true predicate row h) rows ∙ all-kept rows

false-kept : (predicate : Expr) (rows : List Row) → is_literal false (reduced predicate) ≡ true → filter (holds predicate) rows ≡ []
false-kept predicate rows h = filter_agree (holds predicate) (λ row. false) (λ row. literal-holds false predicate row h) rows ∙ none-kept rows

same-projected : (items : List Expr) (rows : List Row) → map (projected (map reduced items)) rows ≡ map (projected items) rows
same-projected items [] = refl
same-projected items (row ∷ rows) = ap₂ (λ (r : Row) rs. r ∷ rs) (reduced-projected items row) (same-projected items rows)

-- ---- what a rewritten tree keeps

pub record Keeps (info : Info) (rel out : Tree) : Type 0 where
  pub sets : (p : ℕ → Bool) → EachHole (λ k. p k ≡ true) rel → EachHole (λ k. p k ≡ true) out
  pub rows : (db : Db) (holes : ℕ → List Row) → bag info db holes out ≡ bag info db holes rel
  pub steady : (m : ℕ → ℕ) (to : Info) → IsValidSchema info.schema → Narrows m info to → reduced_tree to (renumbered m rel) ≡ Some (renumbered m out)

-- a filter's choice, by its three tests
abbrev chosen : Info → Expr → Tree → Bool → Bool → Bool → Option Tree
chosen info predicate t p q r =
    cond p (Some t) (cond q (empty_for info (unary (filter_by predicate) t)) (cond r None (Some (unary (filter_by (reduced predicate)) t))))

chosen-is : (info : Info) (predicate : Expr) (t : Tree) (p q r : Bool) → is_literal true (reduced predicate) ≡ p → is_literal false (reduced predicate) ≡ q → expr_eq (reduced predicate) predicate ≡ r
    → reduced_filter info predicate (reduced predicate) t ≡ chosen info predicate t p q r
chosen-is info predicate t p q r e f g =
    ap (λ p. chosen info predicate t p (is_literal false (reduced predicate)) (expr_eq (reduced predicate) predicate)) e
    ∙ ap (λ q. chosen info predicate t p q (expr_eq (reduced predicate) predicate)) f
    ∙ ap (chosen info predicate t p q) g

input-keeps : (info : Info) (predicate : Expr) (t out : Tree) (q r : Bool) → is_literal true (reduced predicate) ≡ true → is_literal false (reduced predicate) ≡ q → expr_eq (reduced predicate) predicate ≡ r
    → t ≡ out → Keeps info (unary (filter_by predicate) t) out
input-keeps info predicate t out q r e f g is = record {
  sets = λ p each. subst (EachHole (λ k. p k ≡ true)) is each;
  rows = λ db holes. ap (bag info db holes) (sym is) ∙ sym (true-kept predicate (bag info db holes t) e);
  steady = λ m to valid narrows. chosen-is to predicate (renumbered m t) true q r e f g ∙ ap (λ t. Some (renumbered m t)) is;
}

empty-keeps : (info : Info) (predicate : Expr) (t out : Tree) (r : Bool) → is_literal true (reduced predicate) ≡ false → is_literal false (reduced predicate) ≡ true → expr_eq (reduced predicate) predicate ≡ r
    → empty_for info (unary (filter_by predicate) t) ≡ Some out → Keeps info (unary (filter_by predicate) t) out
empty-keeps info predicate t out r e f g is = record {
  sets = λ p each. empty-sets info (unary (filter_by predicate) t) out (λ k. p k ≡ true) is;
  rows = λ db holes. empty-rows info (unary (filter_by predicate) t) out db holes is ∙ sym (false-kept predicate (bag info db holes t) f);
  steady = λ m to valid narrows.
      chosen-is to predicate (renumbered m t) false true r e f g ∙ empty-steady m info to (unary (filter_by predicate) t) out valid narrows is;
}

filter-keeps : (info : Info) (predicate : Expr) (t out : Tree) → is_literal true (reduced predicate) ≡ false → is_literal false (reduced predicate) ≡ false → expr_eq (reduced predicate) predicate ≡ false
    → unary (filter_by (reduced predicate)) t ≡ out → Keeps info (unary (filter_by predicate) t) out
filter-keeps info predicate t out e f g is = record {
  sets = λ p each. subst (EachHole (λ k. p k ≡ true)) is each;
  rows = λ db holes. ap (bag info db holes) (sym is) ∙ filter_agree (holds (reduced predicate)) (holds predicate) (reduced-holds predicate) (bag info db holes t);
  steady = λ m to valid narrows. chosen-is to predicate (renumbered m t) false false false e f g ∙ ap (λ t. Some (renumbered m t)) is;
}

filters-keep : (info : Info) (predicate : Expr) (t out : Tree) → reduced_filter info predicate (reduced predicate) t ≡ Some out → Keeps info (unary (filter_by predicate) t) out
filters-keep info predicate t out =
    by (is_literal true (reduced predicate)) (is_literal false (reduced predicate)) (expr_eq (reduced predicate) predicate) refl refl refl
  where
    by : (p q r : Bool) → is_literal true (reduced predicate) ≡ p → is_literal false (reduced predicate) ≡ q → expr_eq (reduced predicate) predicate ≡ r
        → chosen info predicate t p q r ≡ Some out → Keeps info (unary (filter_by predicate) t) out
    by true q r e f g is = input-keeps info predicate t out q r e f g (some_is t out is)
    by false true r e f g is = empty-keeps info predicate t out r e f g is
    by false false true e f g is = absurd (cc)
    by false false false e f g is = filter-keeps info predicate t out e f g (some_is (unary (filter_by (reduced predicate)) t) out is)

projects-keep : (info : Info) (items : List Expr) (t out : Tree) → reduced_project items (map reduced items) t ≡ Some out → Keeps info (unary (project_to items) t) out
projects-keep info items t out = by (pointwise expr_eq (map reduced items) items) refl
  where
    by : (p : Bool) → pointwise expr_eq (map reduced items) items ≡ p → cond p None (Some (unary (project_to (map reduced items)) t)) ≡ Some out → Keeps info (unary (project_to items) t) out
    by true e is = absurd (cc)
    by false e some =
        let is = some_is (unary (project_to (map reduced items)) t) out some in
        record {
          sets = λ p each. subst (EachHole (λ k. p k ≡ true)) is each;
          rows = λ db holes. ap (bag info db holes) (sym is) ∙ same-projected items (bag info db holes t);
          steady = λ m to valid narrows.
              ap (λ p. cond p None (Some (unary (project_to (map reduced items)) (renumbered m t)))) e ∙ ap (λ t. Some (renumbered m t)) is;
        }

-- ---- the law

trees-keep : (info : Info) (rel out : Tree) → reduced_tree info rel ≡ Some out → Keeps info rel out
trees-keep info (leaf l) out e = absurd (cc)
trees-keep info (unary (filter_by predicate) t) out e = filters-keep info predicate t out e
trees-keep info (unary (project_to items) t) out e = projects-keep info items t out e
trees-keep info (unary (aggregate_by groups calls) t) out e = absurd (cc)
trees-keep info (binary b s t) out e = absurd (cc)
trees-keep info (hole set) out e = absurd (cc)

pub reduce_expressions-local : IsLocal reduced_tree
reduce_expressions-local = record {
  sets = λ info rel out p e each. (trees-keep info rel out e).sets p each;
  means = λ info rel out s t over well e db holes fits true_of. same-rows (bag info db holes out) (bag info db holes rel) ((trees-keep info rel out e).rows db holes);
  steady = λ m from to rel out t valid narrows over e. (trees-keep from rel out e).steady m to valid narrows;
}
