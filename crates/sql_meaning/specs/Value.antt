-- What an expression means, given the rows of the entries of FROM that its names speak of, and over a group of such rows.
use Rattle.std.specs.Prelude.{pos, List, [], ◌∷◌, length, map, Option, Some, None, option_map, unwrap_or}
use Rattle.cal_value.specs.declared.operator.Agg.{Agg}
use Rattle.cal_value.specs.declared.value.Value.{Value}
use Rattle.cal_value.specs.declared.value.Value.TheVariants.{Null, Bool as BoolValue, Int}
use Rattle.cal_value.specs.Logic.{not3, truth_of, value_of, is_null}
use Rattle.cal_value.specs.Order.{column_of}
use Rattle.cal_aggregate.specs.Aggregate.{aggregated}
use Rattle.cal_expr.specs.Meaning.{applied, negated}
use Rattle.sql_tree.specs.declared.tree.ColumnName.{ColumnName}
use Rattle.sql_tree.specs.declared.tree.Tree.{Tree}
use Rattle.sql_tree.specs.declared.tree.Tree.TheFolds.{fold-Tree}
use Rattle.sql_tree.specs.declared.tree.Tree.TheOpen.{Tree-F}
use Rattle.sql_meaning.specs.Scope.{Header, place_in}

-- an entry of FROM with its current row
pub record EntryRow : Type 0 where
  pub header : Header
  pub row : List Value

-- the value of a column, which is that of the first entry that has it
abbrev pub look_up : List EntryRow → ColumnName → Value
look_up [] c = Null
look_up (b ∷ bs) c = unwrap_or (option_map (column_of b.row) (place_in b.header c)) (look_up bs c)

-- ---- over one row

-- one level, with the value of each part in its place. An aggregate has no value over one row
abbrev pub value_step : List EntryRow → Tree-F Value → Value
value_step env (Tree-F.Column place name) = look_up env name
value_step env (Tree-F.Literal place v) = v
value_step env (Tree-F.Negate place a) = negated a
value_step env (Tree-F.Binary place op a b) = applied op a b
value_step env (Tree-F.Not place a) = value_of (not3 (truth_of a))
value_step env (Tree-F.IsNull place a) = BoolValue (is_null a)
value_step env (Tree-F.Aggregate place agg a) = Null

abbrev pub value : List EntryRow → Tree → Value
value env tree = fold-Tree Value (value_step env) tree

-- ---- over a group

-- what an expression means over a row, and over a group of rows
pub record Meant : Type 0 where
  pub row : List EntryRow → Value
  pub group : List (List EntryRow) → Value

-- the value of a column in the first row
abbrev pub first_value : List (List EntryRow) → ColumnName → Value
first_value [] c = Null
first_value (env ∷ envs) c = look_up env c

-- COUNT(*) counts the rows; each other aggregate folds the values of its argument over the rows
abbrev pub folded : Agg → Option Meant → List (List EntryRow) → Value
folded agg None envs = Int (pos (length envs))
folded agg (Some a) envs = aggregated agg (map a.row envs)

-- of an expression without a part; of one with one part, and with two
abbrev pub both_of : (List EntryRow → Value) → (List (List EntryRow) → Value) → Meant
both_of f g = record { row = f; group = g }

abbrev pub meant_by : (Value → Value) → Meant → Meant
meant_by f a = both_of (λ env. f (a.row env)) (λ envs. f (a.group envs))

abbrev pub meant_step : Tree-F Meant → Meant
meant_step (Tree-F.Column place name) = both_of (λ env. look_up env name) (λ envs. first_value envs name)
meant_step (Tree-F.Literal place v) = both_of (λ _. v) (λ _. v)
meant_step (Tree-F.Negate place a) = meant_by negated a
meant_step (Tree-F.Binary place op a b) = both_of (λ env. applied op (a.row env) (b.row env)) (λ envs. applied op (a.group envs) (b.group envs))
meant_step (Tree-F.Not place a) = meant_by (λ v. value_of (not3 (truth_of v))) a
meant_step (Tree-F.IsNull place a) = meant_by (λ v. BoolValue (is_null v)) a
meant_step (Tree-F.Aggregate place agg a) = both_of (λ _. Null) (folded agg a)

abbrev pub meant : Tree → Meant
meant tree = fold-Tree Meant meant_step tree

-- the value of an expression over a group of rows: of a column in the first row, of an aggregate over all of them
abbrev pub group_value : List (List EntryRow) → Tree → Value
group_value envs tree = (meant tree).group envs
