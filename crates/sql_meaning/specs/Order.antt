-- The keys of ORDER BY as columns of the answer.
use Rattle.std.specs.Prelude.{ℕ, ℤ, zero, suc, pos, negsuc, ◌==◌, nat_lt, Bool, false, List, length, position, count_by, filter_map, Option, Some, None, option_map, if◌then◌else◌}
use Rattle.std.specs.Option.{is_none, option_and_then}
use Rattle.cal_value.specs.declared.order.KeyOrder.{KeyOrder}
use Rattle.cal_schema.specs.Lookup.{is_same_name}
use Rattle.sql_tree.specs.declared.select.Items.{Items}
use Rattle.sql_tree.specs.declared.select.KeyBy.{KeyBy}
use Rattle.sql_tree.specs.declared.select.KeyBy.TheVariants.{Place, Column}
use Rattle.sql_tree.specs.declared.select.OrderKey.{OrderKey}
use Rattle.sql_tree.specs.declared.select.Select.{Select}
use Rattle.sql_tree.specs.declared.tree.ColumnName.{ColumnName}
use Rattle.sql_meaning.specs.Names.{output_names, output_places}
use Rattle.sql_meaning.specs.Scope.{Header, place_of}

-- the column of this place from 1
abbrev pub placed : ℕ → ℤ → Option ℕ
placed count (pos zero) = None
placed count (pos (suc at)) = if nat_lt at count then Some at else None
placed count (negsuc n) = None

-- the column of this name, where exactly one has it
abbrev pub named_once : List (List ℕ) → List ℕ → Option ℕ
named_once names name = if count_by (is_same_name name) names == 1 then position (is_same_name name) names else None

abbrev pub is_at : ℕ → Option ℕ → Bool
is_at at None = false
is_at at (Some other) = other == at

-- the first column that is the column of FROM at this place
abbrev pub first_at : List (Option ℕ) → ℕ → Option ℕ
first_at places at = position (is_at at) places

-- the first column of the answer that is this column of FROM
abbrev pub qualified_column : List Header → Items → ColumnName → Option ℕ
qualified_column scope items c = option_and_then (first_at (output_places scope items)) (place_of scope c)

-- a name alone is that of a column of the answer, one with an alias that of a column of FROM
abbrev pub column_named : List Header → Items → ColumnName → Option ℕ
column_named scope items c = if is_none c.alias then named_once (output_names scope items) c.name else qualified_column scope items c

-- the column of the answer that a key names
abbrev pub key_column : List Header → Items → KeyBy → Option ℕ
key_column scope items (Place n) = placed (length (output_names scope items)) n
key_column scope items (Column c) = column_named scope items c

abbrev pub key_order : List Header → Items → OrderKey → Option KeyOrder
key_order scope items key = option_map (λ column. record { column = column; descending = key.descending; nulls_first = key.nulls_first }) (key_column scope items key.by)

-- the keys of an accepted SELECT, each of which names a column
abbrev pub keys_of : List Header → Select → List KeyOrder
keys_of scope select = filter_map (key_order scope select.items) select.order
