-- The types of expressions, and those of whose parts all fit and that may leave the range of numbers themselves.
use Rattle.std.specs.Prelude.{ℕ, ◌+ℤ◌, ◌-ℤ◌, ◌*ℤ◌, false, List, [], ◌∷◌, ◌++◌, map, Option, Some, None, option_map, if◌then◌else◌}
use Rattle.std.specs.List.{flat_map, filter_map}
use Rattle.std.specs.Int.RustNames.{int_div}
use Rattle.std.specs.Option.{option_and_then}
use Rattle.cal_value.specs.declared.interval.Interval.{Interval}
use Rattle.cal_value.specs.declared.interval.Interval.TheVariants.{Never, Range}
use Rattle.cal_value.specs.declared.kind.SqlType.{SqlType}
use Rattle.cal_value.specs.declared.operator.Agg.{Agg}
use Rattle.cal_value.specs.declared.operator.Agg.TheVariants.{Count, Sum, Sum0, Min, Max}
use Rattle.cal_value.specs.declared.operator.Op.{Op}
use Rattle.cal_value.specs.declared.operator.Op.TheVariants.{Add, Subtract, Multiply, Divide}
use Rattle.cal_value.specs.declared.value.Value.{Value}
use Rattle.cal_value.specs.declared.value.Value.TheVariants.{Null, Bool as BoolValue, Int, Text}
use Rattle.cal_value.specs.Interval.{excludes_zero, at_ends, negated, cut, is_in_range}
use Rattle.cal_value.specs.Types.{boolean_type, is_integer}
use Rattle.cal_aggregate.specs.ResultType.{agg_type, counts, sums, with_zero}
use Rattle.cal_expr.specs.Typing.{column_type, literal_type, negation_type, op_type, not_type, of_both}
use Rattle.sql_tree.specs.declared.select.Items.{Items}
use Rattle.sql_tree.specs.declared.select.Items.TheVariants.{Star, Listed}
use Rattle.sql_tree.specs.declared.tree.Tree.{Tree}
use Rattle.sql_tree.specs.declared.tree.Tree.TheFolds.{fold-Tree}
use Rattle.sql_tree.specs.declared.tree.Tree.TheOpen.{Tree-F}
use Rattle.sql_meaning.specs.declared.misfit.Misfit.{Misfit}
use Rattle.sql_meaning.specs.declared.parts.SelectPart.{SelectPart}
use Rattle.sql_meaning.specs.Direct.{shown}
use Rattle.sql_meaning.specs.Parts.{seen_by}
use Rattle.sql_meaning.specs.Scope.{Header, hidden_by, type_in, type_of_column}

-- the type of an expression, where it has one, and what in it doesn't fit
pub record Sized : Type 0 where
  pub type : Option SqlType
  pub misfits : List Misfit

abbrev pub told : ℕ → Interval → List Misfit
told place Never = []
told place (Range lo hi) = record { place = place; lo = cut lo; hi = cut hi } ∷ []

-- the interval may leave the range
abbrev pub own : ℕ → Interval → List Misfit
own place i = if is_in_range i then [] else told place i

-- the divisor's interval is told where it holds 0
abbrev pub quotient_own : ℕ → SqlType → SqlType → List Misfit
quotient_own place s t = if excludes_zero t.interval then own place (at_ends int_div s.interval t.interval) else told place t.interval

abbrev pub op_own : ℕ → Op → SqlType → SqlType → List Misfit
op_own place Add s t = own place (at_ends ◌+ℤ◌ s.interval t.interval)
op_own place Subtract s t = own place (at_ends ◌-ℤ◌ s.interval t.interval)
op_own place Multiply s t = own place (at_ends ◌*ℤ◌ s.interval t.interval)
op_own place Divide s t = quotient_own place s t
op_own place op s t = []

-- nothing is told of an expression with a part that has no type
abbrev pub of_part : (SqlType → List Misfit) → Option SqlType → List Misfit
of_part f None = []
of_part f (Some t) = f t

abbrev pub of_parts : (SqlType → SqlType → List Misfit) → Option SqlType → Option SqlType → List Misfit
of_parts f (Some s) (Some t) = f s t
of_parts f s t = []

abbrev pub column_own : ℕ → SqlType → List Misfit
column_own place t = if is_integer t then own place t.interval else []

abbrev pub literal_own : ℕ → Value → List Misfit
literal_own place Null = []
literal_own place (BoolValue b) = []
literal_own place (Int n) = own place (Range n n)
literal_own place (Text t) = []

-- an aggregate over at most so many rows
abbrev pub agg_own : ℕ → ℕ → Agg → SqlType → List Misfit
agg_own rows place Count t = own place (counts rows)
agg_own rows place Sum t = own place (sums rows t.interval)
agg_own rows place Sum0 t = own place (with_zero (sums rows t.interval))
agg_own rows place Min t = []
agg_own rows place Max t = []

-- without an argument it is COUNT(*)
abbrev pub aggregate_sized : ℕ → ℕ → Agg → Option Sized → Sized
aggregate_sized rows place agg None = record { type = agg_type Count None rows; misfits = own place (counts rows) }
aggregate_sized rows place agg (Some a) = record { type = option_and_then (λ t. agg_type agg (Some t) rows) a.type; misfits = of_part (agg_own rows place agg) a.type ++ a.misfits }

-- one level, with what holds of each part in its place, over at most so many rows
abbrev pub sized_step : ℕ → List Header → Tree-F Sized → Sized
sized_step rows scope (Tree-F.Column place name) = record { type = option_and_then column_type (type_in scope name); misfits = of_part (column_own place) (type_in scope name) }
sized_step rows scope (Tree-F.Literal place v) = record { type = literal_type v; misfits = literal_own place v }
sized_step rows scope (Tree-F.Negate place a) = record { type = option_and_then negation_type a.type; misfits = of_part (λ t. own place (negated t.interval)) a.type ++ a.misfits }
sized_step rows scope (Tree-F.Binary place op a b) = record { type = of_both (op_type op) a.type b.type; misfits = a.misfits ++ of_parts (op_own place op) a.type b.type ++ b.misfits }
sized_step rows scope (Tree-F.Not place a) = record { type = option_and_then not_type a.type; misfits = a.misfits }
sized_step rows scope (Tree-F.IsNull place a) = record { type = option_map (λ _. boolean_type false) a.type; misfits = a.misfits }
sized_step rows scope (Tree-F.Aggregate place agg a) = aggregate_sized rows place agg a

abbrev pub sized : ℕ → List Header → Tree → Sized
sized rows scope tree = fold-Tree Sized (sized_step rows scope) tree

-- the type of an expression over the columns of these entries, whose rows are at most so many
abbrev pub tree_type : ℕ → List Header → Tree → Option SqlType
tree_type rows scope tree = (sized rows scope tree).type

abbrev pub misfits : ℕ → List Header → Tree → List Misfit
misfits rows scope tree = (sized rows scope tree).misfits

abbrev pub part_misfits : ℕ → List Header → SelectPart → List Misfit
part_misfits rows scope part = misfits rows (seen_by scope part) part.tree

-- ---- the types of the columns of an answer

-- those of an entry's columns in order, without those of its own USING
abbrev pub shown_types : Header → List SqlType
shown_types h = shown (hidden_by h.entry.how) h.table.columns (map (type_of_column h) h.table.columns)

-- and none where an item has no type, which nothing accepted has
abbrev pub output_types : ℕ → List Header → Items → List SqlType
output_types rows scope Star = flat_map shown_types scope
output_types rows scope (Listed items) = filter_map (λ item. tree_type rows scope item.tree) items
