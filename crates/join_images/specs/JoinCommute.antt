-- The sides of an inner join in the other order, below a project that restores the columns.
use Rattle.std.specs.Prelude.{ℕ, List, ◌++◌, map, Option, Some, None}
use Rattle.std.specs.List.{range_with_len}
use Rattle.cal_expr.specs.declared.expr.Expr.{Expr}
use Rattle.cal_expr.specs.declared.expr.Expr.TheVariants.{Column}
use Rattle.cal_schema.specs.declared.join_kind.JoinKind.TheVariants.{Inner}
use Rattle.expr_parts.specs.Columns.{over_columns}
use Rattle.cal_rel.specs.Bag.{width}
use Rattle.cal_rel.specs.Info.{Info}
use Rattle.cal_rel.specs.Tree.{Tree, project_to, join_on, unary, binary}

-- where the columns of left rows and then those of right rows, so many of each, stand once right rows come first
abbrev pub exchanged_columns : ℕ → ℕ → List ℕ
exchanged_columns left right = range_with_len right left ++ range_with_len 0 right

abbrev pub commuted : List ℕ → Expr → Tree → Tree → Tree
commuted columns on s t =
    unary (project_to (map (λ at. Column at) columns)) (binary (join_on Inner (over_columns columns on)) t s)

abbrev pub commuted_join : Info → Tree → Option Tree
commuted_join info (binary (join_on Inner on) s t) =
    Some (commuted (exchanged_columns (width info s) (width info t)) on s t)
commuted_join info t = None
