-- What an expression means over a row, with whole numbers of any size and three truth values.
use Rattle.std.specs.Prelude.{ℤ, pos, ◌+ℤ◌, ◌-ℤ◌, ◌*ℤ◌, Bool, false, not, List, if◌then◌else◌}
use Rattle.std.specs.Int.RustNames.{int_div}
use Rattle.std.specs.Ordering.{is_lt, is_le, is_eq, is_gt, is_ge, int_eq}
use Rattle.std.specs.declared.cmp.Ordering.{Ordering}
use Rattle.cal_value.specs.declared.operator.Op.{Op}
use Rattle.cal_value.specs.declared.operator.Op.TheVariants.{Add, Subtract, Multiply, Divide, Equal, NotEqual, Less, LessEqual, Greater, GreaterEqual, And, Or}
use Rattle.cal_value.specs.declared.value.Value.{Value}
use Rattle.cal_value.specs.declared.value.Value.TheVariants.{Null, Bool as BoolValue, Int}
use Rattle.cal_value.specs.Logic.{and3, or3, not3, truth_of, value_of, is_null}
use Rattle.cal_value.specs.Order.{value_cmp, column_of}
use Rattle.cal_expr.specs.declared.expr.Expr.{Expr}
use Rattle.cal_expr.specs.declared.expr.Expr.TheOpen.{Expr-F}
use Rattle.cal_expr.specs.declared.expr.Expr.TheFolds.{fold-Expr}

-- of two numbers, and NULL where one of the two is none
abbrev pub of_numbers : (ℤ → ℤ → Value) → Value → Value → Value
of_numbers f (Int a) (Int b) = f a b
of_numbers f a b = Null

-- toward zero, and NULL by 0
abbrev pub quotient : ℤ → ℤ → Value
quotient a b = if int_eq b (pos 0) then Null else Int (int_div a b)

-- whether the comparison holds of two values that stand in this order
abbrev pub passes : Op → Ordering → Bool
passes Equal o = is_eq o
passes NotEqual o = not (is_eq o)
passes Less o = is_lt o
passes LessEqual o = is_le o
passes Greater o = is_gt o
passes GreaterEqual o = is_ge o
passes op o = false

-- NULL where one of the two is
abbrev pub compared : (Ordering → Bool) → Value → Value → Value
compared test Null b = Null
compared test a Null = Null
compared test a b = BoolValue (test (value_cmp a b))

abbrev pub applied : Op → Value → Value → Value
applied Add a b = of_numbers (λ x y. Int (x +ℤ y)) a b
applied Subtract a b = of_numbers (λ x y. Int (x -ℤ y)) a b
applied Multiply a b = of_numbers (λ x y. Int (x *ℤ y)) a b
applied Divide a b = of_numbers quotient a b
applied And a b = value_of (and3 (truth_of a) (truth_of b))
applied Or a b = value_of (or3 (truth_of a) (truth_of b))
applied op a b = compared (passes op) a b

abbrev pub negated : Value → Value
negated (Int n) = Int (pos 0 -ℤ n)
negated a = Null

-- one level, with the value of each part in its place
abbrev pub meaning_step : List Value → Expr-F Value → Value
meaning_step row (Expr-F.Column at) = column_of row at
meaning_step row (Expr-F.Literal v) = v
meaning_step row (Expr-F.Negate a) = negated a
meaning_step row (Expr-F.Binary op a b) = applied op a b
meaning_step row (Expr-F.Not a) = value_of (not3 (truth_of a))
meaning_step row (Expr-F.IsNull a) = BoolValue (is_null a)

abbrev pub meaning_of : Expr → List Value → Value
meaning_of e row = fold-Expr Value (meaning_step row) e
