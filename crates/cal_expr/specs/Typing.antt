-- When an expression is well formed over columns of some types, and its type.
use Rattle.std.specs.Prelude.{ℤ, ◌+ℤ◌, ◌-ℤ◌, ◌*ℤ◌, Bool, false, ◌||◌, ◌&&◌, Option, Some, None, List, slice_get, if◌then◌else◌}
use Rattle.std.specs.Int.RustNames.{int_div}
use Rattle.std.specs.Option.{option_map, option_and_then}
use Rattle.cal_value.specs.declared.interval.Interval.TheVariants.{Range}
use Rattle.cal_value.specs.declared.kind.SqlType.{SqlType}
use Rattle.cal_value.specs.declared.operator.Op.{Op}
use Rattle.cal_value.specs.declared.operator.Op.TheVariants.{Add, Subtract, Multiply, Divide, And, Or}
use Rattle.cal_value.specs.declared.value.Value.{Value}
use Rattle.cal_value.specs.declared.value.Value.TheVariants.{Null, Bool as BoolValue, Int, Text}
use Rattle.cal_value.specs.Interval.{excludes_zero, at_ends, negated}
use Rattle.cal_value.specs.Types.{boolean_type, text_type, number_type, same_kind, is_integer, is_boolean}
use Rattle.cal_expr.specs.declared.expr.Expr.{Expr}
use Rattle.cal_expr.specs.declared.expr.Expr.TheOpen.{Expr-F}
use Rattle.cal_expr.specs.declared.expr.Expr.TheFolds.{fold-Expr}

-- a column of numbers has its ends in range
abbrev pub column_type : SqlType → Option SqlType
column_type t = if is_integer t then number_type t.nullable t.interval else Some t

-- a literal is never NULL
abbrev pub literal_type : Value → Option SqlType
literal_type Null = None
literal_type (BoolValue b) = Some (boolean_type false)
literal_type (Int n) = number_type false (Range n n)
literal_type (Text t) = Some (text_type false)

abbrev pub either_nullable : SqlType → SqlType → Bool
either_nullable s t = s.nullable || t.nullable

abbrev pub negation_type : SqlType → Option SqlType
negation_type t = if is_integer t then number_type t.nullable (negated t.interval) else None

abbrev pub arithmetic_type : (ℤ → ℤ → ℤ) → SqlType → SqlType → Option SqlType
arithmetic_type f s t =
    if is_integer s && is_integer t then number_type (either_nullable s t) (at_ends f s.interval t.interval) else None

-- the divisor's interval doesn't hold 0
abbrev pub quotient_type : SqlType → SqlType → Option SqlType
quotient_type s t = if excludes_zero t.interval then arithmetic_type int_div s t else None

abbrev pub comparison_type : SqlType → SqlType → Option SqlType
comparison_type s t =
    if same_kind s.kind t.kind then Some (boolean_type (either_nullable s t)) else None

abbrev pub connective_type : SqlType → SqlType → Option SqlType
connective_type s t =
    if is_boolean s && is_boolean t then Some (boolean_type (either_nullable s t)) else None

abbrev pub not_type : SqlType → Option SqlType
not_type t = if is_boolean t then Some (boolean_type t.nullable) else None

abbrev pub op_type : Op → SqlType → SqlType → Option SqlType
op_type Add = arithmetic_type ◌+ℤ◌
op_type Subtract = arithmetic_type ◌-ℤ◌
op_type Multiply = arithmetic_type ◌*ℤ◌
op_type Divide = quotient_type
op_type And = connective_type
op_type Or = connective_type
op_type op = comparison_type

-- none where a part has none
abbrev pub of_both : (SqlType → SqlType → Option SqlType)
    → Option SqlType → Option SqlType → Option SqlType
of_both f (Some s) (Some t) = f s t
of_both f s t = None

-- one level, with the type of each part in its place
abbrev pub type_step : List SqlType → Expr-F (Option SqlType) → Option SqlType
type_step ts (Expr-F.Column at) = option_and_then column_type (slice_get ts at)
type_step ts (Expr-F.Literal v) = literal_type v
type_step ts (Expr-F.Negate s) = option_and_then negation_type s
type_step ts (Expr-F.Binary op s t) = of_both (op_type op) s t
type_step ts (Expr-F.Not s) = option_and_then not_type s
type_step ts (Expr-F.IsNull s) = option_map (λ _. boolean_type false) s

-- the type, where the expression is well formed over columns of these types
abbrev pub type_of : Expr → List SqlType → Option SqlType
type_of e ts = fold-Expr (Option SqlType) (type_step ts) e
