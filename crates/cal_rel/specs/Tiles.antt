-- The rows of stars and of tiles.
use Rattle.std.specs.Prelude.{ℕ, ◌/◌, ◌%◌, ◌==◌, false, List, [], ◌∷◌, length, map, Option, option_map, unwrap_or, slice_get, if◌then◌else◌}
use Rattle.std.specs.List.{filter_map, range_with_len}
use Rattle.std.specs.Ordering.{is_le}
use Rattle.cal_value.specs.declared.order.KeyOrder.{KeyOrder}
use Rattle.cal_value.specs.Order.{row_cmp}
use Rattle.cal_schema.specs.declared.agg_call.AggCall.{AggCall}
use Rattle.cal_schema.specs.declared.database.Db.{Db}
use Rattle.cal_schema.specs.declared.tile.Measure.{Measure}
use Rattle.cal_schema.specs.declared.tile.TileKey.{TileKey}
use Rattle.cal_rel.specs.Info.{Star}
use Rattle.cal_rel.specs.Operators.{Row, by_key, called}

-- the rows of a table
abbrev pub table_rows : Db → ℕ → List Row
table_rows db table = unwrap_or (slice_get db.tables table) []

-- ---- sorted rows

abbrev pub inserted : List KeyOrder → Row → List Row → List Row
inserted keys row [] = row ∷ []
inserted keys row (other ∷ rows) = if is_le (row_cmp keys row other) then row ∷ other ∷ rows else other ∷ inserted keys row rows

abbrev pub sorted : List KeyOrder → List Row → List Row
sorted keys [] = []
sorted keys (row ∷ rows) = inserted keys row (sorted keys rows)

-- ascending by so many first columns, NULL last
abbrev pub ascending : ℕ → List KeyOrder
ascending n = map (λ column. record { column = column; descending = false; nulls_first = false }) (range_with_len 0 n)

-- ---- tiles

-- the dimensions whose bits are set, in the order of the bits
abbrev pub dims_of : List ℕ → ℕ → List ℕ
dims_of [] bits = []
dims_of (dim ∷ dims) bits = if bits % 2 == 1 then dim ∷ dims_of dims (bits / 2) else dims_of dims (bits / 2)

abbrev pub call_of : Measure → AggCall
call_of measure = record { agg = measure.agg; argument = measure.column }

abbrev pub calls_of : List (Option Measure) → List AggCall
calls_of measures = filter_map (option_map call_of) measures

-- for each group of the star's rows by the dimensions, these and the measures; sorted by the dimensions. No rows have no group
abbrev pub tile_rows : Star → TileKey → List Row → List Row
tile_rows star key rows = sorted (ascending (length (dims_of star.dims key.dims))) (by_key (dims_of star.dims key.dims) (called (calls_of key.measures)) rows)
