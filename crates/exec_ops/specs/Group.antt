-- What groups make of rows.
use Rattle.std.specs.Prelude.{ℕ, pos, Bool, List, [], ◌∷◌, ◌++◌, length, map, Option, Some, None}
use Rattle.cal_value.specs.declared.operator.Agg.{Agg}
use Rattle.cal_value.specs.declared.value.Value.{Value}
use Rattle.cal_value.specs.declared.value.Value.TheVariants.{Int}
use Rattle.cal_value.specs.Equal.{row_eq}
use Rattle.cal_value.specs.Order.{column_of, columns_of}
use Rattle.cal_aggregate.specs.Aggregate.{aggregated}
use Rattle.cal_aggregate.specs.Parts.{members, parts}
use Rattle.cal_schema.specs.declared.agg_call.AggCall.{AggCall}
use Rattle.exec_ops.specs.Join.{Row}

abbrev pub values_in : ℕ → List Row → List Value
values_in column rows = map (λ row. column_of row column) rows

-- a call without an argument counts the rows; each other one folds the values of its column
abbrev pub aggregate_of : Agg → Option ℕ → List Row → Value
aggregate_of agg None rows = Int (pos (length rows))
aggregate_of agg (Some column) rows = aggregated agg (values_in column rows)

abbrev pub called : List AggCall → List Row → Row
called calls rows = map (λ call. aggregate_of call.agg call.argument rows) calls

-- NULL is equal to NULL
abbrev pub same_key : List ℕ → Row → Row → Bool
same_key columns a b = row_eq (columns_of a columns) (columns_of b columns)

-- for each group of rows with one key, in order of first appearance, the key and what the calls make of its rows
abbrev pub by_key : List ℕ → List AggCall → List Row → List Row
by_key columns calls rows =
    map (λ part. columns_of part.first columns ++ called calls (members part)) (parts (same_key columns) rows)

-- without columns all rows are one group, also where there are none
abbrev pub group_rows : List ℕ → List AggCall → List Row → List Row
group_rows [] calls rows = called calls rows ∷ []
group_rows (column ∷ columns) calls rows = by_key (column ∷ columns) calls rows
