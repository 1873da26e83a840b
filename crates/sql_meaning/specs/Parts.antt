-- The expressions of a SELECT in the order of their tokens, each with the entries of FROM that it sees.
use Rattle.std.specs.Prelude.{ℕ, ◌+◌, ◌==◌, ◌||◌, Bool, true, false, not, List, [], ◌∷◌, ◌++◌, length, map, take, Option, Some, None, unwrap_or, is_some}
use Rattle.std.specs.List.{list_any}
use Rattle.cal_value.specs.declared.operator.Op.TheVariants.{Equal}
use Rattle.sql_tree.specs.declared.select.Cond.{Cond}
use Rattle.sql_tree.specs.declared.select.Cond.TheVariants.{On, Using}
use Rattle.sql_tree.specs.declared.select.FromEntry.{FromEntry}
use Rattle.sql_tree.specs.declared.select.How.{How}
use Rattle.sql_tree.specs.declared.select.How.TheVariants.{First, Cross, Inner, Left}
use Rattle.sql_tree.specs.declared.select.Items.{Items}
use Rattle.sql_tree.specs.declared.select.Items.TheVariants.{Star, Listed}
use Rattle.sql_tree.specs.declared.select.Select.{Select}
use Rattle.sql_tree.specs.declared.select.UsingName.{UsingName}
use Rattle.sql_tree.specs.declared.tree.ColumnName.{ColumnName}
use Rattle.sql_tree.specs.declared.tree.Tree.{Tree}
use Rattle.sql_tree.specs.declared.tree.Tree.TheVariants.{Column, Binary}
use Rattle.sql_tree.specs.declared.tree.Tree.TheFolds.{fold-Tree}
use Rattle.sql_tree.specs.declared.tree.Tree.TheOpen.{Tree-F}
use Rattle.sql_meaning.specs.declared.parts.Role.{Role}
use Rattle.sql_meaning.specs.declared.parts.Role.TheVariants.{Item, Join, Where, Having}
use Rattle.sql_meaning.specs.declared.parts.SelectPart.{SelectPart}
use Rattle.sql_meaning.specs.Scope.{Header}

-- ---- the conditions of a join

abbrev pub column_tree : ℕ → Option (List ℕ) → List ℕ → Tree
column_tree place alias name = Column place (record { alias = alias; name = name })

-- a name of USING means that the column of that name before and the entry's own are equal
abbrev pub equal_columns : List ℕ → UsingName → Tree
equal_columns alias n = Binary n.place Equal (column_tree n.place None n.name) (column_tree n.place (Some alias) n.name)

abbrev pub conditions_in : List ℕ → Cond → List Tree
conditions_in alias (On tree) = tree ∷ []
conditions_in alias (Using names) = map (equal_columns alias) names

abbrev pub conditions_by : List ℕ → How → List Tree
conditions_by alias First = []
conditions_by alias Cross = []
conditions_by alias (Inner cond) = conditions_in alias cond
conditions_by alias (Left cond) = conditions_in alias cond

-- what has to be TRUE of a row of the entry and those before it
abbrev pub conditions : FromEntry → List Tree
conditions entry = conditions_by entry.alias entry.how

-- ---- parts

abbrev pub listed : {A : Type 0} → Option A → List A
listed None = []
listed (Some a) = a ∷ []

abbrev pub item_trees : Items → List Tree
item_trees Star = []
item_trees (Listed items) = map (λ item. item.tree) items

abbrev pub part : ℕ → Role → Tree → SelectPart
part entries role tree = record { entries = entries; role = role; tree = tree }

-- ON and USING see the entries up to and including their own, of which so many stand before
abbrev pub join_parts : ℕ → List FromEntry → List SelectPart
join_parts before [] = []
join_parts before (entry ∷ entries) = map (part (before + 1) Join) (conditions entry) ++ join_parts (before + 1) entries

-- in the order of tokens
abbrev pub parts_of : Select → List SelectPart
parts_of select =
    map (part (length select.from) Item) (item_trees select.items)
    ++ join_parts 0 select.from
    ++ map (part (length select.from) Where) (listed select.filter)
    ++ map (part (length select.from) Having) (listed select.having)

-- the entries that it sees
abbrev pub seen_by : List Header → SelectPart → List Header
seen_by scope part = take part.entries scope

abbrev pub is_condition : Role → Bool
is_condition Item = false
is_condition Join = true
is_condition Where = true
is_condition Having = true

-- items and HAVING may have aggregates, and speak of groups where the query has any
abbrev pub is_of_groups : Role → Bool
is_of_groups Item = true
is_of_groups Join = false
is_of_groups Where = false
is_of_groups Having = true

-- ---- names

abbrev pub columns_step : Tree-F (List ColumnName) → List ColumnName
columns_step (Tree-F.Column place name) = name ∷ []
columns_step (Tree-F.Literal place v) = []
columns_step (Tree-F.Negate place a) = a
columns_step (Tree-F.Binary place op a b) = a ++ b
columns_step (Tree-F.Not place a) = a
columns_step (Tree-F.IsNull place a) = a
columns_step (Tree-F.Aggregate place agg a) = unwrap_or a []

-- the columns that an expression names
abbrev pub columns_in : Tree → List ColumnName
columns_in tree = fold-Tree (List ColumnName) columns_step tree

-- ---- aggregates

abbrev pub aggregate_step : Tree-F Bool → Bool
aggregate_step (Tree-F.Column place name) = false
aggregate_step (Tree-F.Literal place v) = false
aggregate_step (Tree-F.Negate place a) = a
aggregate_step (Tree-F.Binary place op a b) = a || b
aggregate_step (Tree-F.Not place a) = a
aggregate_step (Tree-F.IsNull place a) = a
aggregate_step (Tree-F.Aggregate place agg a) = true

abbrev pub has_aggregate : Tree → Bool
has_aggregate tree = fold-Tree Bool aggregate_step tree

abbrev pub is_empty : {A : Type 0} → List A → Bool
is_empty xs = length xs == 0

-- it has GROUP BY, HAVING or an aggregate
abbrev pub is_aggregate_query : Select → Bool
is_aggregate_query select = (not (is_empty select.groups) || is_some select.having) || list_any has_aggregate (item_trees select.items)
