-- What a reduced expression is at each variant.
use Rattle.std.proofs.Common.{◌≡◌, ℕ, ap, ◌∙◌}
use mathlib.Core.Path.{ap₂}
use Rattle.cal_value.specs.declared.operator.Op.{Op}
use Rattle.cal_value.specs.declared.value.Value.{Value}
use Rattle.cal_expr.specs.declared.expr.Expr.{Expr}
use Rattle.cal_expr.specs.declared.expr.Expr.TheVariants.{Column, Literal, Negate, Binary, Not, IsNull}
use Rattle.project_images.specs.ReduceExpressions.{Reduction, reduction, reduced}
use Rattle.project_images.specs.ReducedMeaning.{at-Column, at-Literal, at-Negate, at-Binary, at-Not, at-IsNull, reduced-whole}

pub reduced-Column : (at : ℕ) → reduced (Column at) ≡ (reduction (Column at) (Column at)).reduced
reduced-Column at = ap (λ (r : Reduction). r.reduced) (at-Column at)

pub reduced-Literal : (v : Value) → reduced (Literal v) ≡ (reduction (Literal v) (Literal v)).reduced
reduced-Literal v = ap (λ (r : Reduction). r.reduced) (at-Literal v)

pub reduced-Negate : (e : Expr) → reduced (Negate e) ≡ (reduction (Negate e) (Negate (reduced e))).reduced
reduced-Negate e = ap (λ (r : Reduction). r.reduced) (at-Negate e) ∙ ap (λ whole. (reduction (Negate whole) (Negate (reduced e))).reduced) (reduced-whole e)

pub reduced-Binary : (op : Op) (a b : Expr) → reduced (Binary op a b) ≡ (reduction (Binary op a b) (Binary op (reduced a) (reduced b))).reduced
reduced-Binary op a b =
    ap (λ (r : Reduction). r.reduced) (at-Binary op a b)
    ∙ ap₂ (λ left right. (reduction (Binary op left right) (Binary op (reduced a) (reduced b))).reduced) (reduced-whole a) (reduced-whole b)

pub reduced-Not : (e : Expr) → reduced (Not e) ≡ (reduction (Not e) (Not (reduced e))).reduced
reduced-Not e = ap (λ (r : Reduction). r.reduced) (at-Not e) ∙ ap (λ whole. (reduction (Not whole) (Not (reduced e))).reduced) (reduced-whole e)

pub reduced-IsNull : (e : Expr) → reduced (IsNull e) ≡ (reduction (IsNull e) (IsNull (reduced e))).reduced
reduced-IsNull e = ap (λ (r : Reduction). r.reduced) (at-IsNull e) ∙ ap (λ whole. (reduction (IsNull whole) (IsNull (reduced e))).reduced) (reduced-whole e)

pub ruleset reduced_steps = (reduced-Column, reduced-Literal, reduced-Negate, reduced-Binary, reduced-Not, reduced-IsNull)
