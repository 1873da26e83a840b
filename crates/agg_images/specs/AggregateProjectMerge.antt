-- An aggregate over a project, of which it uses columns alone, is an aggregate over the project's input.
use Rattle.std.specs.Prelude.{ℕ, List, Option, Some, None, option_map, option_and_then, slice_get}
use Rattle.cal_value.specs.declared.operator.Agg.{Agg}
use Rattle.cal_expr.specs.declared.expr.Expr.{Expr}
use Rattle.cal_schema.specs.declared.agg_call.AggCall.{AggCall}
use Rattle.cal_rel.specs.Tree.{Tree, project_to, aggregate_by, unary}
use Rattle.cal_rel.specs.Typing.{of_both}
use Rattle.rel_meta.specs.Keys.{column_in, each_of}

-- the column below that the item of this place is, where it is one
abbrev pub column_below : List Expr → ℕ → Option ℕ
column_below items at = option_and_then column_in (slice_get items at)

-- a call of a column is one of the column below
abbrev pub argument_below : List Expr → Agg → Option ℕ → Option AggCall
argument_below items agg None = Some (record { agg = agg; argument = None })
argument_below items agg (Some at) = option_map (λ column. record { agg = agg; argument = Some column }) (column_below items at)

abbrev pub call_below : List Expr → AggCall → Option AggCall
call_below items call = argument_below items call.agg call.argument

abbrev pub aggregate_over : Tree → List ℕ → List AggCall → Option Tree
aggregate_over t groups calls = Some (unary (aggregate_by groups calls) t)

abbrev pub merged_below : Tree → Option Tree
merged_below (unary (aggregate_by groups calls) (unary (project_to items) t)) = of_both (aggregate_over t) (each_of (column_below items) groups) (each_of (call_below items) calls)
merged_below t = None
