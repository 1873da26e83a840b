-- What stands in brackets behind the name of a node.
use Rattle.std.specs.Prelude.{ℕ, List, [], ◌∷◌, ◌++◌, Bool, true, false, Option, Some, None, option_map, unwrap_or, slice_get, codes, decimal}
use Rattle.cal_value.specs.declared.operator.Agg.{Agg}
use Rattle.cal_value.specs.declared.operator.Agg.TheVariants.{Count, Sum, Sum0, Min, Max}
use Rattle.cal_value.specs.declared.order.KeyOrder.{KeyOrder}
use Rattle.cal_expr.specs.declared.expr.Expr.{Expr}
use Rattle.cal_schema.specs.declared.agg_call.AggCall.{AggCall}
use Rattle.cal_schema.specs.declared.join_kind.JoinKind.{JoinKind}
use Rattle.cal_schema.specs.declared.join_kind.JoinKind.TheVariants.{Inner, Left}
use Rattle.cal_schema.specs.declared.schema.Schema.{Schema}
use Rattle.script_text.specs.Values.{more, table_text}
use Rattle.explain_text.specs.Expressions.{column_text, expression_text}

-- a name, and its details in brackets
abbrev pub named : List ℕ → List ℕ → List ℕ
named name details = name ++ codes "(" ++ details ++ codes ")"

-- the texts with commas between them
abbrev pub listed : {A : Type 0} → (A → List ℕ) → List A → List ℕ
listed text [] = []
listed text (x ∷ xs) = text x ++ more text xs

-- ---- tables and tiles

-- a table with its schema; nothing where it isn't there
abbrev pub table_name : Schema → ℕ → List ℕ
table_name schema table = unwrap_or (option_map (λ t. table_text t.schema t.name) (slice_get schema.tables table)) []

-- by its instance
abbrev pub tile_text : ℕ → List ℕ
tile_text tile = codes "tile " ++ decimal tile

-- ---- projects and joins

abbrev pub items_text : List Expr → List ℕ
items_text items = listed expression_text items

abbrev pub kind_text : JoinKind → List ℕ
kind_text Inner = codes "Inner"
kind_text Left = codes "Left"

abbrev pub join_text : JoinKind → Expr → List ℕ
join_text kind on = codes "kind=" ++ kind_text kind ++ codes " on=[" ++ expression_text on ++ codes "]"

-- ---- aggregates

abbrev pub agg_text : Agg → List ℕ
agg_text Count = codes "COUNT"
agg_text Sum = codes "SUM"
agg_text Sum0 = codes "SUM0"
agg_text Min = codes "MIN"
agg_text Max = codes "MAX"

-- `*` where the rows are counted
abbrev pub argument_text : Option ℕ → List ℕ
argument_text None = codes "*"
argument_text (Some at) = column_text at

abbrev pub call_text : AggCall → List ℕ
call_text call = named (agg_text call.agg) (argument_text call.argument)

abbrev pub aggregate_text : List ℕ → List AggCall → List ℕ
aggregate_text groups calls = codes "keys=[" ++ listed column_text groups ++ codes "] calls=[" ++ listed call_text calls ++ codes "]"

-- ---- orders

abbrev pub direction_text : Bool → List ℕ
direction_text false = codes " ASC"
direction_text true = codes " DESC"

abbrev pub nulls_text : Bool → List ℕ
nulls_text false = codes " NULLS LAST"
nulls_text true = codes " NULLS FIRST"

abbrev pub key_text : KeyOrder → List ℕ
key_text key = column_text key.column ++ direction_text key.descending ++ nulls_text key.nulls_first

abbrev pub sort_text : List KeyOrder → List ℕ
sort_text keys = codes "keys=[" ++ listed key_text keys ++ codes "]"
