-- Constant parts of predicates and items are replaced by their values.
use Rattle.std.specs.Prelude.{Bool, true, false, List, [], map, Option, Some, None, if◌then◌else◌}
use Rattle.std.specs.Cmp.Lexicographic.{pointwise}
use Rattle.cal_value.specs.declared.value.Value.{Value}
use Rattle.cal_value.specs.declared.value.Value.TheVariants.{Null, Bool as BoolValue}
use Rattle.cal_expr.specs.declared.expr.Expr.{Expr}
use Rattle.cal_expr.specs.declared.expr.Expr.TheOpen.{Expr-F}
use Rattle.cal_expr.specs.declared.expr.Expr.TheFolds.{fold-Expr}
use Rattle.cal_expr.specs.declared.expr.Expr.TheVariants.{Column, Literal, Negate, Binary, Not, IsNull}
use Rattle.cal_expr.specs.Equal.{expr_eq}
use Rattle.cal_expr.specs.Meaning.{meaning_of}
use Rattle.expr_parts.specs.Columns.{is_constant}
use Rattle.cal_rel.specs.Info.{Info}
use Rattle.cal_rel.specs.Tree.{Tree, filter_by, project_to, unary}
use Rattle.project_images.specs.Empties.{empty_for}

-- ---- expressions

-- an expression, and what it is reduced to
pub record Reduction : Type 0 where
  pub whole : Expr
  pub reduced : Expr

-- a literal is never NULL
abbrev pub literal_or : Expr → Value → Expr
literal_or e Null = e
literal_or e v = Literal v

-- the value of a constant expression; of another one its parts are reduced
abbrev pub reduction : Expr → Expr → Reduction
reduction whole parts = record { whole = whole; reduced = if is_constant whole then literal_or whole (meaning_of whole []) else parts }

abbrev pub reduce_step : Expr-F Reduction → Reduction
reduce_step (Expr-F.Column at) = reduction (Column at) (Column at)
reduce_step (Expr-F.Literal v) = reduction (Literal v) (Literal v)
reduce_step (Expr-F.Negate a) = reduction (Negate a.whole) (Negate a.reduced)
reduce_step (Expr-F.Binary op a b) = reduction (Binary op a.whole b.whole) (Binary op a.reduced b.reduced)
reduce_step (Expr-F.Not a) = reduction (Not a.whole) (Not a.reduced)
reduce_step (Expr-F.IsNull a) = reduction (IsNull a.whole) (IsNull a.reduced)

abbrev pub reduced : Expr → Expr
reduced e = (fold-Expr Reduction reduce_step e).reduced

-- ---- trees

abbrev pub is_literal : Bool → Expr → Bool
is_literal b e = expr_eq e (Literal (BoolValue b))

-- a filter by TRUE is its input, one by FALSE is empty
abbrev pub reduced_filter : Info → Expr → Expr → Tree → Option Tree
reduced_filter info predicate made t =
    if is_literal true made then Some t
    else if is_literal false made then empty_for info (unary (filter_by predicate) t)
    else if expr_eq made predicate then None
    else Some (unary (filter_by made) t)

abbrev pub reduced_project : List Expr → List Expr → Tree → Option Tree
reduced_project items made t = if pointwise expr_eq made items then None else Some (unary (project_to made) t)

abbrev pub reduced_tree : Info → Tree → Option Tree
reduced_tree info (unary (filter_by predicate) t) = reduced_filter info predicate (reduced predicate) t
reduced_tree info (unary (project_to items) t) = reduced_project items (map reduced items) t
reduced_tree info t = None
