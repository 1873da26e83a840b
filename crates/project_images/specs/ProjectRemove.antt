-- A project of all columns in order is its input.
use Rattle.std.specs.Prelude.{ℕ, suc, ◌==◌, Bool, true, ◌&&◌, List, [], ◌∷◌, length, Option, Some, None, if◌then◌else◌}
use Rattle.cal_expr.specs.declared.expr.Expr.{Expr}
use Rattle.cal_expr.specs.declared.expr.Expr.TheVariants.{Column}
use Rattle.cal_expr.specs.Equal.{expr_eq}
use Rattle.cal_rel.specs.Bag.{width}
use Rattle.cal_rel.specs.Info.{Info}
use Rattle.cal_rel.specs.Tree.{Tree, project_to, unary}

-- the columns from this one on, in order
abbrev pub are_columns_from : ℕ → List Expr → Bool
are_columns_from at [] = true
are_columns_from at (item ∷ items) = expr_eq item (Column at) && are_columns_from (suc at) items

abbrev pub is_all_columns : ℕ → List Expr → Bool
is_all_columns width items = length items == width && are_columns_from 0 items

abbrev pub removed_project : Info → Tree → Option Tree
removed_project info (unary (project_to items) t) = if is_all_columns (width info t) items then Some t else None
removed_project info t = None
