-- A reduced expression means what the expression means. For proofs alone.
use Rattle.std.proofs.Common.{◌≡◌, ℕ, Bool, true, false, cond, List, [], ◌∷◌, map, refl, sym, ◌∙◌, ap, subst}
use mathlib.Core.Path.{ap₂}
use Rattle.cal_value.specs.declared.operator.Op.{Op}
use Rattle.cal_value.specs.declared.value.Value.{Value}
use Rattle.cal_value.specs.declared.value.Value.TheVariants.{Null, Bool as BoolValue, Int, Text}
use Rattle.cal_value.specs.Logic.{not3, truth_of, value_of, is_null}
use Rattle.cal_expr.specs.declared.expr.Expr.{Expr}
use Rattle.cal_expr.specs.declared.expr.Expr.TheFolds.{fold-Expr, fold-roll-Expr}
use Rattle.cal_expr.specs.declared.expr.Expr.TheOpen.{Expr-F}
use Rattle.cal_expr.specs.declared.expr.Expr.TheVariants.{Column, Literal, Negate, Binary, Not, IsNull, rolls-Column, rolls-Literal, rolls-Negate, rolls-Binary, rolls-Not, rolls-IsNull}
use Rattle.cal_expr.specs.Meaning.{meaning_of, applied, negated}
use Rattle.expr_parts.specs.Columns.{is_constant}
use Rattle.expr_parts.proofs.ColumnLaws.{constant-mean}
use Rattle.expr_parts.proofs.ExprSteps.{AtEach, each_expr, meaning-Literal, meaning-Negate, meaning-Binary, meaning-Not, meaning-IsNull}
use Rattle.cal_rel.specs.Operators.{Row, projected}
use Rattle.project_images.specs.ReduceExpressions.{Reduction, literal_or, reduction, reduce_step, reduced}

abbrev pub reduction_of : Expr → Reduction
reduction_of e = fold-Expr Reduction reduce_step e

-- ---- each variant

pub at-Column : (at : ℕ) → reduction_of (Column at) ≡ reduction (Column at) (Column at)
at-Column at = ap reduction_of (sym (rolls-Column at)) ∙ fold-roll-Expr Reduction reduce_step (Expr-F.Column at)

pub at-Literal : (v : Value) → reduction_of (Literal v) ≡ reduction (Literal v) (Literal v)
at-Literal v = ap reduction_of (sym (rolls-Literal v)) ∙ fold-roll-Expr Reduction reduce_step (Expr-F.Literal v)

pub at-Negate : (e : Expr) → reduction_of (Negate e) ≡ reduction (Negate (reduction_of e).whole) (Negate (reduction_of e).reduced)
at-Negate e = ap reduction_of (sym (rolls-Negate e)) ∙ fold-roll-Expr Reduction reduce_step (Expr-F.Negate e)

pub at-Binary : (op : Op) (a b : Expr) → reduction_of (Binary op a b)
    ≡ reduction (Binary op (reduction_of a).whole (reduction_of b).whole) (Binary op (reduction_of a).reduced (reduction_of b).reduced)
at-Binary op a b = ap reduction_of (sym (rolls-Binary op a b)) ∙ fold-roll-Expr Reduction reduce_step (Expr-F.Binary op a b)

pub at-Not : (e : Expr) → reduction_of (Not e) ≡ reduction (Not (reduction_of e).whole) (Not (reduction_of e).reduced)
at-Not e = ap reduction_of (sym (rolls-Not e)) ∙ fold-roll-Expr Reduction reduce_step (Expr-F.Not e)

pub at-IsNull : (e : Expr) → reduction_of (IsNull e) ≡ reduction (IsNull (reduction_of e).whole) (IsNull (reduction_of e).reduced)
at-IsNull e = ap reduction_of (sym (rolls-IsNull e)) ∙ fold-roll-Expr Reduction reduce_step (Expr-F.IsNull e)

-- ---- what a reduction means

literal_or-means : (e : Expr) (v : Value) (row : Row) → v ≡ meaning_of e row → meaning_of (literal_or e v) row ≡ meaning_of e row
literal_or-means e Null row h = refl
literal_or-means e (BoolValue b) row h = meaning-Literal (BoolValue b) row ∙ h
literal_or-means e (Int n) row h = meaning-Literal (Int n) row ∙ h
literal_or-means e (Text t) row h = meaning-Literal (Text t) row ∙ h

reduction-means : (whole parts : Expr) (row : Row) → meaning_of parts row ≡ meaning_of whole row → meaning_of (reduction whole parts).reduced row ≡ meaning_of whole row
reduction-means whole parts row h = by (is_constant whole) refl
  where
    by : (b : Bool) → is_constant whole ≡ b → meaning_of (cond b (literal_or whole (meaning_of whole [])) parts) row ≡ meaning_of whole row
    by true e = literal_or-means whole (meaning_of whole []) row (constant-mean whole [] row e)
    by false e = h

-- it keeps the expression, and means it
record IsReduction (row : Row) (e : Expr) (r : Reduction) : Type 0 where
  whole : r.whole ≡ e
  means : meaning_of r.reduced row ≡ meaning_of e row

reduction-is : (row : Row) (e whole parts : Expr) → whole ≡ e → meaning_of parts row ≡ meaning_of e row → IsReduction row e (reduction whole parts)
reduction-is row e whole parts is h = record {
  whole = is;
  means = reduction-means whole parts row (h ∙ ap (λ e. meaning_of e row) (sym is)) ∙ ap (λ e. meaning_of e row) is;
}

abbrev Reduces : Row → Expr → Type 0
Reduces row e = IsReduction row e (reduction_of e)

along : (row : Row) (e : Expr) (r : Reduction) → reduction_of e ≡ r → IsReduction row e r → Reduces row e
along row e r is h = subst (IsReduction row e) (sym is) h

reduces : (row : Row) (e : Expr) → Reduces row e
reduces row = each_expr (Reduces row) each
  where
    each : AtEach (Reduces row)
    each = record {
      column = λ at. along row (Column at) (reduction (Column at) (Column at)) (at-Column at) (reduction-is row (Column at) (Column at) (Column at) refl refl);
      literal = λ v. along row (Literal v) (reduction (Literal v) (Literal v)) (at-Literal v) (reduction-is row (Literal v) (Literal v) (Literal v) refl refl);
      negate = λ e h.
          let r = reduction_of e in
          along row (Negate e) (reduction (Negate r.whole) (Negate r.reduced)) (at-Negate e)
          (reduction-is row (Negate e) (Negate r.whole) (Negate r.reduced) (ap Negate h.whole)
          (meaning-Negate r.reduced row ∙ ap negated h.means ∙ sym (meaning-Negate e row)));
      binary = λ op a b h k.
          let r = reduction_of a in
          let s = reduction_of b in
          along row (Binary op a b) (reduction (Binary op r.whole s.whole) (Binary op r.reduced s.reduced)) (at-Binary op a b)
          (reduction-is row (Binary op a b) (Binary op r.whole s.whole) (Binary op r.reduced s.reduced) (ap₂ (Binary op) h.whole k.whole)
          (meaning-Binary op r.reduced s.reduced row ∙ ap₂ (applied op) h.means k.means ∙ sym (meaning-Binary op a b row)));
      not = λ e h.
          let r = reduction_of e in
          along row (Not e) (reduction (Not r.whole) (Not r.reduced)) (at-Not e)
          (reduction-is row (Not e) (Not r.whole) (Not r.reduced) (ap Not h.whole)
          (meaning-Not r.reduced row ∙ ap (λ v. value_of (not3 (truth_of v))) h.means ∙ sym (meaning-Not e row)));
      is_null = λ e h.
          let r = reduction_of e in
          along row (IsNull e) (reduction (IsNull r.whole) (IsNull r.reduced)) (at-IsNull e)
          (reduction-is row (IsNull e) (IsNull r.whole) (IsNull r.reduced) (ap IsNull h.whole)
          (meaning-IsNull r.reduced row ∙ ap (λ v. BoolValue (is_null v)) h.means ∙ sym (meaning-IsNull e row)));
    }

pub reduced-means : (e : Expr) (row : Row) → meaning_of (reduced e) row ≡ meaning_of e row
reduced-means e row = (reduces row e).means

pub reduced-whole : (e : Expr) → (fold-Expr Reduction reduce_step e).whole ≡ e
reduced-whole e = (reduces [] e).whole

pub reduced-projected : (items : List Expr) (row : Row) → projected (map reduced items) row ≡ projected items row
reduced-projected [] row = refl
reduced-projected (item ∷ items) row = ap₂ (λ (v : Value) vs. v ∷ vs) (reduced-means item row) (reduced-projected items row)
