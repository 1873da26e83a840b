-- When a tree is well formed, and its type.
use Rattle.std.specs.Prelude.{ℕ, ◌-◌, ◌*◌, ◌==◌, nat_lt, nat_le, min, max, Bool, true, false, not, ◌&&◌, ◌||◌, List, [], ◌∷◌, ◌++◌, length, map, Option, Some, None, option_map, unwrap_or, slice_get, int_lt, if◌then◌else◌}
use Rattle.std.specs.List.{list_all, list_any}
use Rattle.std.specs.Option.{option_and_then}
use Rattle.cal_value.specs.declared.interval.Interval.{Interval}
use Rattle.cal_value.specs.declared.interval.Interval.TheVariants.{Never, Range}
use Rattle.cal_value.specs.declared.kind.SqlType.{SqlType}
use Rattle.cal_value.specs.declared.operator.Op.{Op}
use Rattle.cal_value.specs.declared.operator.Op.TheVariants.{And, Equal}
use Rattle.cal_value.specs.declared.operator.Agg.{Agg}
use Rattle.cal_value.specs.Interval.{is_in_range}
use Rattle.cal_value.specs.Types.{is_boolean, is_integer}
use Rattle.cal_aggregate.specs.ResultType.{agg_type, row_bound}
use Rattle.cal_expr.specs.declared.expr.Expr.{Expr}
use Rattle.cal_expr.specs.declared.expr.Expr.TheOpen.{Expr-F}
use Rattle.cal_expr.specs.declared.expr.Expr.TheFolds.{fold-Expr}
use Rattle.cal_expr.specs.Typing as expressions
use Rattle.cal_schema.specs.declared.agg_call.AggCall.{AggCall}
use Rattle.cal_schema.specs.declared.join_kind.JoinKind.{JoinKind}
use Rattle.cal_schema.specs.declared.join_kind.JoinKind.TheVariants.{Inner, Left}
use Rattle.cal_schema.specs.declared.rel_type.RelType.{RelType}
use Rattle.cal_schema.specs.declared.star_pair.StarPair.{StarPair}
use Rattle.cal_schema.specs.declared.table.TableDef.{TableDef}
use Rattle.cal_schema.specs.declared.tile.TileKey.{TileKey}
use Rattle.cal_schema.specs.Fits.{types_of}
use Rattle.cal_rel.specs.Info.{Star, Info, set_at}
use Rattle.cal_rel.specs.Tiles.{dims_of, calls_of}
use Rattle.cal_rel.specs.Tree.{Leaf, scan, tile_scan, star_scan, empty_of, Unary, filter_by, project_to, aggregate_by, Binary, join_on, Tree, leaf, unary, binary, hole}

-- none where one of the two is none
abbrev pub of_both : {A B C : Type 0} → (A → B → Option C) → Option A → Option B → Option C
of_both f (Some a) (Some b) = f a b
of_both f None b = None
of_both f (Some a) None = None

-- the type of each, and none where one has none
abbrev pub types_by : {A : Type 0} → (A → Option SqlType) → List A → Option (List SqlType)
types_by f [] = Some []
types_by f (x ∷ xs) = of_both (λ t ts. Some (t ∷ ts)) (f x) (types_by f xs)

-- the expression is BOOLEAN over columns of these types
abbrev pub is_condition : Expr → List SqlType → Bool
is_condition e columns = unwrap_or (option_map is_boolean (expressions.type_of e columns)) false

-- ---- one input

abbrev pub filter_type : Expr → RelType → Option RelType
filter_type predicate t = if is_condition predicate t.columns then Some t else None

abbrev pub of_columns : ℕ → List SqlType → RelType
of_columns bound columns = record { columns = columns; bound = bound }

abbrev pub project_type : List Expr → RelType → Option RelType
project_type items t = option_map (of_columns t.bound) (types_by (λ item. expressions.type_of item t.columns) items)

-- of an aggregate over at most so many rows; of a call without an argument COUNT alone has a type
abbrev pub argument_type : Agg → List SqlType → ℕ → Option ℕ → Option SqlType
argument_type agg columns rows None = agg_type agg None rows
argument_type agg columns rows (Some column) = option_and_then (λ t. agg_type agg (Some t) rows) (slice_get columns column)

abbrev pub call_type : List SqlType → ℕ → AggCall → Option SqlType
call_type columns rows call = argument_type call.agg columns rows call.argument

-- one row without groups
abbrev pub group_bound : List ℕ → ℕ → ℕ
group_bound [] rows = 1
group_bound (column ∷ columns) rows = rows

abbrev pub group_columns : List ℕ → List AggCall → RelType → Option (List SqlType)
group_columns groups calls t = of_both (λ keys values. Some (keys ++ values)) (types_by (slice_get t.columns) groups) (types_by (call_type t.columns t.bound) calls)

abbrev pub aggregate_type : List ℕ → List AggCall → RelType → Option RelType
aggregate_type groups calls t = option_map (of_columns (group_bound groups t.bound)) (group_columns groups calls t)

abbrev pub unary_type : Unary → RelType → Option RelType
unary_type (filter_by predicate) = filter_type predicate
unary_type (project_to items) = project_type items
unary_type (aggregate_by groups calls) = aggregate_type groups calls

-- ---- joins

-- the column that an expression is, where it is one, and the columns that it equates
pub record Equated : Type 0 where
  pub column : Option ℕ
  pub pairs : List StarPair

-- one column of the left rows, which have so many, and one of the right rows, written either way round
abbrev pub pair_of : ℕ → Option ℕ → Option ℕ → List StarPair
pair_of width None d = []
pair_of width (Some c) None = []
pair_of width (Some c) (Some d) =
    if nat_lt c width && nat_le width d then record { left = c; right = d - width } ∷ []
    else if nat_lt d width && nat_le width c then record { left = d; right = c - width } ∷ []
    else []

abbrev pub equated_op : ℕ → Op → Equated → Equated → List StarPair
equated_op width And a b = a.pairs ++ b.pairs
equated_op width Equal a b = pair_of width a.column b.column
equated_op width op a b = []

abbrev pub equated_step : ℕ → Expr-F Equated → Equated
equated_step width (Expr-F.Column at) = record { column = Some at; pairs = [] }
equated_step width (Expr-F.Literal v) = record { column = None; pairs = [] }
equated_step width (Expr-F.Negate a) = record { column = None; pairs = [] }
equated_step width (Expr-F.Binary op a b) = record { column = None; pairs = equated_op width op a b }
equated_step width (Expr-F.Not a) = record { column = None; pairs = [] }
equated_step width (Expr-F.IsNull a) = record { column = None; pairs = [] }

abbrev pub equated : ℕ → Expr → Equated
equated width on = fold-Expr Equated (equated_step width) on

-- the conjuncts that equate a column of each side
abbrev pub pairs_of : ℕ → Expr → List StarPair
pairs_of width on = (equated width on).pairs

abbrev pub is_among : List ℕ → ℕ → Bool
is_among columns column = list_any (λ other. other == column) columns

-- there is a primary key, and each of its columns is among these
abbrev pub has_key : List ℕ → List ℕ → Bool
has_key columns [] = false
has_key columns (column ∷ key) = list_all (is_among columns) (column ∷ key)

abbrev pub table_has_key : List ℕ → Option TableDef → Bool
table_has_key columns None = false
table_has_key columns (Some table) = has_key columns table.primary_key

-- the side is the scan of a table with a primary key, or filters over one, and each column of the key is among these
abbrev pub is_keyed : Info → Tree → List ℕ → Bool
is_keyed info (leaf (scan table)) columns = table_has_key columns (slice_get info.schema.tables table)
is_keyed info (leaf (tile_scan at)) columns = false
is_keyed info (leaf (star_scan lattice)) columns = false
is_keyed info (leaf (empty_of types)) columns = false
is_keyed info (unary (filter_by predicate) t) columns = is_keyed info t columns
is_keyed info (unary (project_to items) t) columns = false
is_keyed info (unary (aggregate_by groups calls) t) columns = false
is_keyed info (binary b s t) columns = false
is_keyed info (hole set) columns = false

-- which sides have a key whose columns are equated with the other side's
pub record Keyed : Type 0 where
  pub left : Bool
  pub right : Bool

abbrev pub keyed : Info → ℕ → Expr → Tree → Tree → Keyed
keyed info width on s t = record {
  left = is_keyed info s (map (λ p. p.left) (pairs_of width on));
  right = is_keyed info t (map (λ p. p.right) (pairs_of width on));
}

abbrev pub nullable : SqlType → SqlType
nullable t = record t { nullable = true }

abbrev pub join_columns : JoinKind → List SqlType → List SqlType → List SqlType
join_columns Inner left right = left ++ right
join_columns Left left right = left ++ map nullable right

-- a row of the other side has at most one partner on a side whose key is equated
abbrev pub inner_bound : Bool → Bool → ℕ → ℕ → ℕ
inner_bound true true left right = min left right
inner_bound true false left right = right
inner_bound false true left right = left
inner_bound false false left right = row_bound (left * right)

abbrev pub left_bound : Bool → ℕ → ℕ → ℕ
left_bound true left right = left
left_bound false left right = row_bound (left * max right 1)

abbrev pub join_bound : JoinKind → Keyed → ℕ → ℕ → ℕ
join_bound Inner by left right = inner_bound by.left by.right left right
join_bound Left by left right = left_bound by.right left right

abbrev pub join_type : JoinKind → Expr → Keyed → RelType → RelType → Option RelType
join_type kind on by s t =
    if is_condition on (s.columns ++ t.columns) then Some (of_columns (join_bound kind by s.bound t.bound) (join_columns kind s.columns t.columns)) else None

abbrev pub binary_type : Info → Binary → Tree → Tree → RelType → RelType → Option RelType
binary_type info (join_on kind on) a b s t = join_type kind on (keyed info (length s.columns) on a b) s t

-- ---- leaves

-- for whole numbers, the ends of the interval are numbers of SQL that stand in order
abbrev pub is_ordered : Interval → Bool
is_ordered Never = true
is_ordered (Range lo hi) = not (int_lt hi lo)

abbrev pub is_listed : SqlType → Bool
is_listed t = not (is_integer t) || (is_in_range t.interval && is_ordered t.interval)

abbrev pub table_type : TableDef → RelType
table_type table = of_columns table.max_rows (types_of table)

abbrev pub star_type : Info → Star → Option RelType
star_type info star = option_map table_type (slice_get info.schema.tables star.table)

-- that of the groups of all rows of the star, with the star's bound
abbrev pub tile_type_over : Star → TileKey → RelType → Option RelType
tile_type_over star key t = option_map (of_columns t.bound) (group_columns (dims_of star.dims key.dims) (calls_of key.measures) t)

abbrev pub tile_type : Info → TileKey → Option RelType
tile_type info key = option_and_then (λ star. option_and_then (tile_type_over star key) (star_type info star)) (slice_get info.stars key.lattice)

abbrev pub empty_type : List SqlType → Option RelType
empty_type types = if list_all is_listed types then Some (of_columns 0 types) else None

abbrev pub leaf_type : Info → Leaf → Option RelType
leaf_type info (scan table) = option_map table_type (slice_get info.schema.tables table)
leaf_type info (tile_scan at) = option_and_then (λ tile. tile_type info tile.key) (slice_get info.tiles at)
leaf_type info (star_scan lattice) = option_and_then (star_type info) (slice_get info.stars lattice)
leaf_type info (empty_of types) = empty_type types

-- ---- the tree

abbrev pub type_of : Info → Tree → Option RelType
type_of info (leaf l) = leaf_type info l
type_of info (unary u t) = option_and_then (unary_type u) (type_of info t)
type_of info (binary b s t) = of_both (binary_type info b s t) (type_of info s) (type_of info t)
type_of info (hole set) = set_at info.sets set
