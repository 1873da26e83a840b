-- What one node makes of the rows of its inputs.
use Rattle.std.specs.Prelude.{ℕ, pos, Bool, List, [], ◌∷◌, ◌++◌, length, map, filter, replicate, Option, Some, None}
use Rattle.cal_value.specs.declared.operator.Agg.{Agg}
use Rattle.cal_value.specs.declared.value.Value.{Value}
use Rattle.cal_value.specs.declared.value.Value.TheVariants.{Null, Int}
use Rattle.cal_aggregate.specs.Aggregate.{aggregated}
use Rattle.cal_value.specs.Equal.{row_eq}
use Rattle.cal_value.specs.Logic.{is_true}
use Rattle.cal_value.specs.Order.{column_of, columns_of}
use Rattle.cal_aggregate.specs.Parts.{members, parts}
use Rattle.cal_expr.specs.declared.expr.Expr.{Expr}
use Rattle.cal_expr.specs.Meaning.{meaning_of}
use Rattle.cal_schema.specs.declared.agg_call.AggCall.{AggCall}
use Rattle.cal_schema.specs.declared.join_kind.JoinKind.{JoinKind}
use Rattle.cal_schema.specs.declared.join_kind.JoinKind.TheVariants.{Inner, Left}

abbrev pub Row : Type 0
Row = List Value

-- the condition is TRUE of the row
abbrev pub holds : Expr → Row → Bool
holds condition row = is_true (meaning_of condition row)

abbrev pub projected : List Expr → Row → Row
projected items row = map (λ item. meaning_of item row) items

-- ---- joins

-- a left row before each right row, where the condition is TRUE of both
abbrev pub partners : Expr → List Row → Row → List Row
partners on right x = filter (holds on) (map (λ y. x ++ y) right)

-- and the row alone where there are none
abbrev pub or_alone : Row → List Row → List Row
or_alone alone [] = alone ∷ []
or_alone alone (row ∷ rows) = row ∷ rows

-- what a join makes of one left row; right rows have so many columns
abbrev pub joined : JoinKind → Expr → ℕ → List Row → Row → List Row
joined Inner on width right x = partners on right x
joined Left on width right x = or_alone (x ++ replicate width Null) (partners on right x)

-- ---- groups

-- a call without an argument counts the rows; each other one folds the values of its column
abbrev pub aggregate_of : Agg → Option ℕ → List Row → Value
aggregate_of agg None rows = Int (pos (length rows))
aggregate_of agg (Some column) rows = aggregated agg (map (λ row. column_of row column) rows)

abbrev pub called : List AggCall → List Row → Row
called calls rows = map (λ call. aggregate_of call.agg call.argument rows) calls

-- NULL is equal to NULL
abbrev pub same_key : List ℕ → Row → Row → Bool
same_key columns a b = row_eq (columns_of a columns) (columns_of b columns)

-- for each group of rows with one key, in order of first appearance, the key and what the calls make of its rows
abbrev pub by_key : List ℕ → (List Row → Row) → List Row → List Row
by_key columns calls rows = map (λ part. columns_of part.first columns ++ calls (members part)) (parts (same_key columns) rows)

-- without columns all rows are one group, also where there are none
abbrev pub grouped : List ℕ → (List Row → Row) → List Row → List Row
grouped [] calls rows = calls rows ∷ []
grouped (column ∷ columns) calls rows = by_key (column ∷ columns) calls rows
