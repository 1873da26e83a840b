-- Types and values of expressions, variant by variant.
use Rattle.std.proofs.Common.{◌≡◌, ◌∙◌, sym, ap, ℕ}
use Rattle.cal_value.specs.declared.operator.Op.{Op}
use Rattle.cal_value.specs.declared.value.Value.{Value}
use Rattle.cal_expr.specs.declared.expr.Expr.{Expr}
use Rattle.cal_expr.specs.declared.expr.Expr.TheFolds.{fold-Expr, fold-roll-Expr}
use Rattle.cal_expr.specs.declared.expr.Expr.TheOpen.{Expr-F}
use Rattle.cal_expr.specs.declared.expr.Expr.TheVariants.{Column, Literal, Negate, Binary, Not, IsNull, rolls-Column, rolls-Literal, rolls-Negate, rolls-Binary, rolls-Not, rolls-IsNull}

-- a fold of an expression, by its variant
pub fold-Column : {A : Type 0} (step : Expr-F A → A) (at : ℕ) → fold-Expr A step (Column at) ≡ step (Expr-F.Column at)
fold-Column {A} step at = ap (fold-Expr A step) (sym (rolls-Column at)) ∙ fold-roll-Expr A step (Expr-F.Column at)

pub fold-Literal : {A : Type 0} (step : Expr-F A → A) (v : Value) → fold-Expr A step (Literal v) ≡ step (Expr-F.Literal v)
fold-Literal {A} step v = ap (fold-Expr A step) (sym (rolls-Literal v)) ∙ fold-roll-Expr A step (Expr-F.Literal v)

pub fold-Negate : {A : Type 0} (step : Expr-F A → A) (e : Expr) → fold-Expr A step (Negate e) ≡ step (Expr-F.Negate (fold-Expr A step e))
fold-Negate {A} step e = ap (fold-Expr A step) (sym (rolls-Negate e)) ∙ fold-roll-Expr A step (Expr-F.Negate e)

pub fold-Binary : {A : Type 0} (step : Expr-F A → A) (op : Op) (l r : Expr) → fold-Expr A step (Binary op l r) ≡ step (Expr-F.Binary op (fold-Expr A step l) (fold-Expr A step r))
fold-Binary {A} step op l r = ap (fold-Expr A step) (sym (rolls-Binary op l r)) ∙ fold-roll-Expr A step (Expr-F.Binary op l r)

pub fold-Not : {A : Type 0} (step : Expr-F A → A) (e : Expr) → fold-Expr A step (Not e) ≡ step (Expr-F.Not (fold-Expr A step e))
fold-Not {A} step e = ap (fold-Expr A step) (sym (rolls-Not e)) ∙ fold-roll-Expr A step (Expr-F.Not e)

pub fold-IsNull : {A : Type 0} (step : Expr-F A → A) (e : Expr) → fold-Expr A step (IsNull e) ≡ step (Expr-F.IsNull (fold-Expr A step e))
fold-IsNull {A} step e = ap (fold-Expr A step) (sym (rolls-IsNull e)) ∙ fold-roll-Expr A step (Expr-F.IsNull e)
