-- The conjuncts of a condition, and the condition that conjuncts make.
use Rattle.std.specs.Prelude.{true, List, [], ◌∷◌, ◌++◌}
use Rattle.cal_value.specs.declared.operator.Op.{Op}
use Rattle.cal_value.specs.declared.operator.Op.TheVariants.{And}
use Rattle.cal_value.specs.declared.value.Value.{Value}
use Rattle.cal_value.specs.declared.value.Value.TheVariants.{Bool as BoolValue}
use Rattle.cal_expr.specs.declared.expr.Expr.{Expr}
use Rattle.cal_expr.specs.declared.expr.Expr.TheOpen.{Expr-F}
use Rattle.cal_expr.specs.declared.expr.Expr.TheFolds.{fold-Expr}
use Rattle.cal_expr.specs.declared.expr.Expr.TheVariants.{Column, Literal, Negate, Binary, Not, IsNull}

-- an expression, and its conjuncts
pub record Split : Type 0 where
  pub whole : Expr
  pub conjuncts : List Expr

abbrev pub alone : Expr → Split
alone e = record { whole = e; conjuncts = e ∷ [] }

-- the literal TRUE is no conjunct
abbrev pub of_literal : Value → List Expr
of_literal (BoolValue true) = []
of_literal v = Literal v ∷ []

abbrev pub of_operator : Op → Split → Split → List Expr
of_operator And a b = a.conjuncts ++ b.conjuncts
of_operator op a b = Binary op a.whole b.whole ∷ []

abbrev pub split_step : Expr-F Split → Split
split_step (Expr-F.Column at) = alone (Column at)
split_step (Expr-F.Literal v) = record { whole = Literal v; conjuncts = of_literal v }
split_step (Expr-F.Negate a) = alone (Negate a.whole)
split_step (Expr-F.Binary op a b) = record { whole = Binary op a.whole b.whole; conjuncts = of_operator op a b }
split_step (Expr-F.Not a) = alone (Not a.whole)
split_step (Expr-F.IsNull a) = alone (IsNull a.whole)

-- the parts of its ANDs from left to right, without the literal TRUE
abbrev pub conjuncts_of : Expr → List Expr
conjuncts_of e = (fold-Expr Split split_step e).conjuncts

abbrev pub and_all : Expr → List Expr → Expr
and_all before [] = before
and_all before (condition ∷ more) = and_all (Binary And before condition) more

-- their AND, grouped to the left, and TRUE where there is none
abbrev pub conjunction : List Expr → Expr
conjunction [] = Literal (BoolValue true)
conjunction (condition ∷ more) = and_all condition more
