-- Equality of expressions, as a test that decides `≡`.
use Rattle.std.specs.Prelude.{ℕ, Bool, false, ◌==◌, ◌&&◌}
use Rattle.cal_value.specs.Equal.{value_eq}
use Rattle.cal_value.specs.declared.operator.Op.{Op}
use Rattle.cal_value.specs.declared.operator.Op.TheVariants.{Add, Subtract, Multiply, Divide, Equal, NotEqual, Less, LessEqual, Greater, GreaterEqual, And, Or}
use Rattle.cal_expr.specs.declared.expr.Expr.{Expr, out-Expr}
use Rattle.cal_expr.specs.declared.expr.Expr.TheOpen.{Expr-F}
use Rattle.cal_expr.specs.declared.expr.Expr.TheFolds.{fold-Expr}

abbrev pub op_index : Op → ℕ
op_index Add = 0
op_index Subtract = 1
op_index Multiply = 2
op_index Divide = 3
op_index Equal = 4
op_index NotEqual = 5
op_index Less = 6
op_index LessEqual = 7
op_index Greater = 8
op_index GreaterEqual = 9
op_index And = 10
op_index Or = 11

abbrev pub op_eq : Op → Op → Bool
op_eq a b = op_index a == op_index b

-- one level, where each part of the first is a test of a part of the second
abbrev pub eq_step : Expr-F (Expr → Bool) → Expr-F Expr → Bool
eq_step (Expr-F.Column a) (Expr-F.Column b) = a == b
eq_step (Expr-F.Literal a) (Expr-F.Literal b) = value_eq a b
eq_step (Expr-F.Negate p) (Expr-F.Negate e) = p e
eq_step (Expr-F.Binary op p q) (Expr-F.Binary other e f) = op_eq op other && p e && q f
eq_step (Expr-F.Not p) (Expr-F.Not e) = p e
eq_step (Expr-F.IsNull p) (Expr-F.IsNull e) = p e
eq_step x y = false

abbrev pub expr_eq : Expr → Expr → Bool
expr_eq = fold-Expr (Expr → Bool) (λ x e. eq_step x (out-Expr e))
