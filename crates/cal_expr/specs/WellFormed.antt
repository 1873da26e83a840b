-- What an expression asks of a row, and what its value is.
use Rattle.std.specs.Prelude.{◌≡◌, IsSome, Some, List}
use Rattle.cal_value.specs.declared.kind.SqlType.{SqlType}
use Rattle.cal_value.specs.declared.value.Value.{Value}
use Rattle.cal_value.specs.Types.{IsOfType, HasTypes}
use Rattle.cal_expr.specs.declared.expr.Expr.{Expr}
use Rattle.cal_expr.specs.Typing.{type_of}

-- the expression is well formed over some types that the row has
pub record IsWellFormed (e : Expr) (row : List Value) : Type 0 where
  pub types : List SqlType
  pub has_types : HasTypes row types
  pub typed : IsSome (type_of e types)

-- the value is of each type that the expression has over types of the row
abbrev pub IsWellTyped : Expr → List Value → Value → Type 0
IsWellTyped e row v =
    (ts : List SqlType) (t : SqlType) → HasTypes row ts → type_of e ts ≡ Some t → IsOfType v t
