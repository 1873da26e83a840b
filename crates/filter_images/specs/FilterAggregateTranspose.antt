-- Conjuncts on group columns go below an aggregate with groups.
use Rattle.std.specs.Prelude.{ℕ, not, List, ◌∷◌, map, filter, length, Option, Some, None, if◌then◌else◌}
use Rattle.cal_expr.specs.declared.expr.Expr.{Expr}
use Rattle.cal_schema.specs.declared.agg_call.AggCall.{AggCall}
use Rattle.expr_parts.specs.Columns.{over_columns}
use Rattle.expr_parts.specs.Conjuncts.{conjuncts_of}
use Rattle.cal_rel.specs.Tree.{Tree, filter_by, aggregate_by, unary}
use Rattle.filter_images.specs.Filtered.{filtered}
use Rattle.filter_images.specs.FilterIntoJoin.{is_left, stays_above}

-- the group columns are the first of the aggregate's columns
abbrev pub below_groups : List ℕ → List AggCall → List Expr → Tree → Tree
below_groups groups calls conjuncts t =
    filtered (filter (λ c. not (is_left (length groups) c)) conjuncts)
    (unary (aggregate_by groups calls) (filtered (map (over_columns groups) (filter (is_left (length groups)) conjuncts)) t))

abbrev pub over_groups : Expr → List ℕ → List AggCall → Tree → Option Tree
over_groups predicate groups calls t =
    if stays_above (length groups) predicate then None else Some (below_groups groups calls (conjuncts_of predicate) t)

abbrev pub filter_below_aggregate : Tree → Option Tree
filter_below_aggregate (unary (filter_by predicate) (unary (aggregate_by (group ∷ groups) calls) t)) = over_groups predicate (group ∷ groups) calls t
filter_below_aggregate t = None
