-- The printed text of expressions.
use Rattle.std.specs.Prelude.{ℕ, List, ◌++◌, Bool, true, false, if◌then◌else◌, codes, decimal}
use Rattle.cal_value.specs.declared.operator.Op.{Op}
use Rattle.cal_value.specs.declared.operator.Op.TheVariants.{Add, Subtract, Multiply, Divide, Equal, NotEqual, Less, LessEqual, Greater, GreaterEqual, And, Or}
use Rattle.cal_expr.specs.declared.expr.Expr.{Expr}
use Rattle.cal_expr.specs.declared.expr.Expr.TheOpen.{Expr-F}
use Rattle.cal_expr.specs.declared.expr.Expr.TheFolds.{fold-Expr}
use Rattle.script_text.specs.Values.{value_text}

abbrev pub column_text : ℕ → List ℕ
column_text at = codes "$" ++ decimal at

abbrev pub op_text : Op → List ℕ
op_text Add = codes "+"
op_text Subtract = codes "-"
op_text Multiply = codes "*"
op_text Divide = codes "/"
op_text Equal = codes "="
op_text NotEqual = codes "<>"
op_text Less = codes "<"
op_text LessEqual = codes "<="
op_text Greater = codes ">"
op_text GreaterEqual = codes ">="
op_text And = codes "AND"
op_text Or = codes "OR"

-- a text, and whether it is that of a column or of a literal
pub record Printed : Type 0 where
  pub is_simple : Bool
  pub text : List ℕ

abbrev pub simple : List ℕ → Printed
simple text = record { is_simple = true; text = text }

abbrev pub compound : List ℕ → Printed
compound text = record { is_simple = false; text = text }

-- an operand that is neither a column nor a literal stands in brackets
abbrev pub operand_text : Printed → List ℕ
operand_text p = if p.is_simple then p.text else codes "(" ++ p.text ++ codes ")"

-- one level, with what each operand prints as in its place
abbrev pub printed_step : Expr-F Printed → Printed
printed_step (Expr-F.Column at) = simple (column_text at)
printed_step (Expr-F.Literal v) = simple (value_text v)
printed_step (Expr-F.Negate p) = compound (codes "- " ++ operand_text p)
printed_step (Expr-F.Binary op p q) = compound (operand_text p ++ codes " " ++ op_text op ++ codes " " ++ operand_text q)
printed_step (Expr-F.Not p) = compound (codes "NOT " ++ operand_text p)
printed_step (Expr-F.IsNull p) = compound (operand_text p ++ codes " IS NULL")

abbrev pub printed : Expr → Printed
printed e = fold-Expr Printed printed_step e

abbrev pub expression_text : Expr → List ℕ
expression_text e = (printed e).text
