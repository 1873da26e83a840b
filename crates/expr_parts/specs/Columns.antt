-- The columns that an expression reads, and other expressions in their places.
use Rattle.std.specs.Prelude.{ℕ, ◌-◌, Bool, true, false, List, [], ◌∷◌, ◌++◌, slice_get, unwrap_or}
use Rattle.cal_expr.specs.declared.expr.Expr.{Expr}
use Rattle.cal_expr.specs.declared.expr.Expr.TheOpen.{Expr-F}
use Rattle.cal_expr.specs.declared.expr.Expr.TheFolds.{fold-Expr}
use Rattle.cal_expr.specs.declared.expr.Expr.TheVariants.{Column, Literal, Negate, Binary, Not, IsNull}

abbrev pub columns_step : Expr-F (List ℕ) → List ℕ
columns_step (Expr-F.Column at) = at ∷ []
columns_step (Expr-F.Literal v) = []
columns_step (Expr-F.Negate a) = a
columns_step (Expr-F.Binary op a b) = a ++ b
columns_step (Expr-F.Not a) = a
columns_step (Expr-F.IsNull a) = a

-- from left to right, each as often as it is read
abbrev pub columns_read : Expr → List ℕ
columns_read e = fold-Expr (List ℕ) columns_step e

abbrev pub is_none : List ℕ → Bool
is_none [] = true
is_none (column ∷ columns) = false

-- it reads no column
abbrev pub is_constant : Expr → Bool
is_constant e = is_none (columns_read e)

-- one level, with an expression in the place of a column
abbrev pub with_step : (ℕ → Expr) → Expr-F Expr → Expr
with_step f (Expr-F.Column at) = f at
with_step f (Expr-F.Literal v) = Literal v
with_step f (Expr-F.Negate a) = Negate a
with_step f (Expr-F.Binary op a b) = Binary op a b
with_step f (Expr-F.Not a) = Not a
with_step f (Expr-F.IsNull a) = IsNull a

abbrev pub with_columns : (ℕ → Expr) → Expr → Expr
with_columns f e = fold-Expr Expr (with_step f) e

-- the item in the place of each column; a column past the items stays
abbrev pub over_items : List Expr → Expr → Expr
over_items items e = with_columns (λ at. unwrap_or (slice_get items at) (Column at)) e

-- the column of that place in the list in the place of each; one past the list stays
abbrev pub over_columns : List ℕ → Expr → Expr
over_columns columns e = with_columns (λ at. Column (unwrap_or (slice_get columns at) at)) e

-- columns counted from this one on
abbrev pub shifted_down : ℕ → Expr → Expr
shifted_down by e = with_columns (λ at. Column (at - by)) e
