-- A join's condition as pairs of columns and the rest.
use Rattle.std.specs.Prelude.{◌≡◌, ℕ, true, ◌&&◌, List, ◌++◌, length, IfSome, Option, Some, None}
use Rattle.cal_value.specs.declared.kind.SqlType.{SqlType}
use Rattle.cal_value.specs.declared.operator.Op.TheVariants.{And, Equal}
use Rattle.cal_expr.specs.declared.expr.Expr.{Expr}
use Rattle.cal_expr.specs.declared.expr.Expr.TheVariants.{Binary}
use Rattle.cal_rel.specs.Operators.{Row, holds}
use Rattle.cal_rel.specs.Typing.{is_condition, pairs_of}
use Rattle.exec_ops.specs.declared.join_on.JoinOn.{JoinOn}
use Rattle.exec_ops.specs.Join.{goes_together, pairs_match, passes}

-- for left rows of so many columns: two rows go together exactly where the condition is TRUE of the one before the other
pub record Splits (on : Expr) (width : ℕ) (split : JoinOn) : Type 0 where
  pub same : (x y : Row) → length x ≡ width → goes_together split x y ≡ holds on (x ++ y)

-- the equality of two operands
pub record IsEquation (on : Expr) : Type 0 where
  pub left : Expr
  pub right : Expr
  pub is : on ≡ Binary Equal left right

-- the conjunction of those that are there
abbrev pub conjunction : Option Expr → Option Expr → Option Expr
conjunction None b = b
conjunction (Some a) None = Some a
conjunction (Some a) (Some b) = Some (Binary And a b)

-- the condition is TRUE exactly where its pairs match and the rest passes, and the rest is a condition over what it is one over
pub record IsRest (width : ℕ) (on : Expr) (rest : Option Expr) : Type 0 where
  pub same : (x y : Row) → length x ≡ width → (pairs_match (pairs_of width on) x y && passes rest (x ++ y)) ≡ holds on (x ++ y)
  pub typed : (types : List SqlType) → is_condition on types ≡ true → IfSome rest (λ e. is_condition e types ≡ true)
