-- An aggregate whose groups hold a unique key has one row for each row of its input: it is a project.
use Rattle.std.specs.Prelude.{ℕ, pos, Bool, false, not, List, [], ◌∷◌, ◌++◌, map, Option, Some, None, option_map, option_and_then, slice_get, if◌then◌else◌}
use Rattle.std.specs.Option.{option_map_or}
use Rattle.cal_value.specs.declared.kind.SqlType.{SqlType}
use Rattle.cal_value.specs.declared.operator.Agg.{Agg}
use Rattle.cal_value.specs.declared.operator.Agg.TheVariants.{Count, Sum, Sum0, Min, Max}
use Rattle.cal_value.specs.declared.value.Value.TheVariants.{Int}
use Rattle.cal_expr.specs.declared.expr.Expr.{Expr}
use Rattle.cal_expr.specs.declared.expr.Expr.TheVariants.{Column, Literal}
use Rattle.cal_schema.specs.declared.agg_call.AggCall.{AggCall}
use Rattle.cal_rel.specs.Info.{Info}
use Rattle.cal_rel.specs.Tree.{Tree, project_to, aggregate_by, unary}
use Rattle.cal_rel.specs.Typing.{type_of}
use Rattle.rel_meta.specs.Keys.{each_of, holds_key, unique_keys}

-- NULL stands in no row of this column
abbrev pub is_known : List SqlType → ℕ → Bool
is_known columns at = option_map_or (λ t. not t.nullable) (slice_get columns at) false

-- this, where NULL stands in no row of the column
abbrev pub where_known : List SqlType → ℕ → Expr → Option Expr
where_known columns at item = if is_known columns at then Some item else None

abbrev pub one : Expr
one = Literal (Int (pos 1))

-- the aggregate over a single row, as an item over this row
abbrev pub single_value : List SqlType → Agg → Option ℕ → Option Expr
single_value columns Count None = Some one
single_value columns Count (Some at) = where_known columns at one
single_value columns Sum (Some at) = Some (Column at)
single_value columns Sum0 (Some at) = where_known columns at (Column at)
single_value columns Min (Some at) = Some (Column at)
single_value columns Max (Some at) = Some (Column at)
single_value columns agg None = None

abbrev pub single_call : List SqlType → AggCall → Option Expr
single_call columns call = single_value columns call.agg call.argument

-- the groups, and then what each call is
abbrev pub single_rows : List SqlType → List ℕ → List AggCall → Tree → Option Tree
single_rows columns groups calls t = option_map (λ values. unary (project_to (map Column groups ++ values)) t) (each_of (single_call columns) calls)

abbrev pub over_input : Info → List ℕ → List AggCall → Tree → Option Tree
over_input info groups calls t = option_and_then (λ s. single_rows s.columns groups calls t) (type_of info t)

-- where the groups hold a key of the input
abbrev pub over_keyed : Info → List ℕ → List AggCall → Tree → Option Tree
over_keyed info groups calls t = if holds_key groups (unique_keys info t) then over_input info groups calls t else None

abbrev pub removed_aggregate : Info → Tree → Option Tree
removed_aggregate info (unary (aggregate_by (group ∷ groups) calls) t) = over_keyed info (group ∷ groups) calls t
removed_aggregate info t = None
