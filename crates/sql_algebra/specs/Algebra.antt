-- The relational tree that a SELECT stands for.
use Rattle.std.specs.Prelude.{ℕ, ◌+◌, ◌==◌, ◌&&◌, Bool, true, false, List, [], ◌∷◌, ◌++◌, length, map, Option, Some, None, option_map, unwrap_or, is_some, if◌then◌else◌}
use Rattle.std.specs.List.{flat_map, list_all, position_or_len}
use Rattle.cal_value.specs.declared.operator.Agg.{Agg}
use Rattle.cal_value.specs.declared.operator.Agg.TheVariants.{Count}
use Rattle.cal_value.specs.declared.value.Value.TheVariants.{Null}
use Rattle.cal_aggregate.specs.Parts.{distinct}
use Rattle.cal_expr.specs.declared.expr.Expr.{Expr, out-Expr}
use Rattle.cal_expr.specs.declared.expr.Expr.TheOpen.{Expr-F}
use Rattle.cal_expr.specs.declared.expr.Expr.TheVariants.{Column, Literal, Negate, Binary, Not, IsNull}
use Rattle.cal_expr.specs.Equal.{expr_eq}
use Rattle.expr_parts.specs.Conjuncts.{conjunction}
use Rattle.cal_schema.specs.declared.agg_call.AggCall.{AggCall}
use Rattle.cal_schema.specs.declared.join_kind.JoinKind.{JoinKind}
use Rattle.cal_schema.specs.declared.join_kind.JoinKind.TheVariants.{Inner as InnerJoin, Left as LeftJoin}
use Rattle.cal_schema.specs.declared.schema.Schema.{Schema}
use Rattle.cal_rel.specs.Equal.{agg_eq}
use Rattle.cal_rel.specs.Tree.{scan, empty_of, filter_by, project_to, aggregate_by, join_on, Tree as RelTree, leaf, unary, binary}
use Rattle.sql_tree.specs.declared.select.FromEntry.{FromEntry}
use Rattle.sql_tree.specs.declared.select.How.{How}
use Rattle.sql_tree.specs.declared.select.How.TheVariants.{First, Cross, Inner, Left}
use Rattle.sql_tree.specs.declared.select.Items.{Items}
use Rattle.sql_tree.specs.declared.select.Items.TheVariants.{Star, Listed}
use Rattle.sql_tree.specs.declared.select.Select.{Select}
use Rattle.sql_tree.specs.declared.tree.Tree.{Tree}
use Rattle.sql_tree.specs.declared.tree.Tree.TheFolds.{fold-Tree}
use Rattle.sql_tree.specs.declared.tree.Tree.TheOpen.{Tree-F}
use Rattle.sql_meaning.specs.Groups.{group_places}
use Rattle.sql_meaning.specs.Names.{places_from, star_places}
use Rattle.sql_meaning.specs.Parts.{conditions, item_trees, listed, is_aggregate_query}
use Rattle.sql_meaning.specs.Scope.{Header, number_of, header_of, scope_of, column_at}
use Rattle.sql_to_rel.specs.Numbered.{numbered}
use Rattle.sql_algebra.specs.declared.layout.ExprCall.{ExprCall}
use Rattle.sql_algebra.specs.declared.layout.Layout.{Layout}

-- ---- FROM

-- the table's rows; the number past the end where there is no table
abbrev pub scan_of : Schema → FromEntry → RelTree
scan_of schema entry = leaf (scan (unwrap_or (number_of schema entry.table) (length schema.tables)))

-- over the entries up to its own
abbrev pub join_condition : List Header → FromEntry → Expr
join_condition scope entry = conjunction (map (numbered scope) (conditions entry))

abbrev pub join_kind : How → JoinKind
join_kind First = InnerJoin
join_kind Cross = InnerJoin
join_kind (Inner cond) = InnerJoin
join_kind (Left cond) = LeftJoin

abbrev pub joined_with : Schema → List Header → RelTree → FromEntry → RelTree
joined_with schema scope tree entry = binary (join_on (join_kind entry.how) (join_condition scope entry)) tree (scan_of schema entry)

-- the tree of the entries before, joined with each entry from left to right
abbrev pub joins : Schema → List Header → RelTree → List FromEntry → RelTree
joins schema before tree [] = tree
joins schema before tree (entry ∷ entries) =
    joins schema (before ++ header_of schema entry ∷ []) (joined_with schema (before ++ header_of schema entry ∷ []) tree entry) entries

-- FROM has an entry
abbrev pub from_tree : Schema → List FromEntry → RelTree
from_tree schema [] = leaf (empty_of [])
from_tree schema (entry ∷ entries) = joins schema (header_of schema entry ∷ []) (scan_of schema entry) entries

-- ---- WHERE and HAVING

-- a condition keeps the rows of which it is TRUE, and none keeps all
abbrev pub kept : (Tree → Expr) → Option Tree → RelTree → RelTree
kept meaning None tree = tree
kept meaning (Some condition) tree = unary (filter_by (meaning condition)) tree

-- ---- aggregates

-- the first place of an element, or else the length
abbrev pub place_among : {A : Type 0} → (A → A → Bool) → A → List A → ℕ
place_among same x xs = position_or_len (λ y. same y x) xs

abbrev pub same_argument : Option Expr → Option Expr → Bool
same_argument None None = true
same_argument (Some a) (Some b) = expr_eq a b
same_argument a b = false

abbrev pub same_call : ExprCall → ExprCall → Bool
same_call a b = agg_eq a.agg b.agg && same_argument a.argument b.argument

-- what a tree stands for over rows, the calls in it, and what it stands for over an Aggregate's rows
pub record Placed : Type 0 where
  pub row : Expr
  pub calls : List ExprCall
  pub group : Layout → Expr

abbrev pub call_at : Layout → ExprCall → Expr
call_at layout call = Column (length layout.groups + place_among same_call call layout.calls)

abbrev pub group_at : Layout → ℕ → Expr
group_at layout column = Column (place_among ◌==◌ column layout.groups)

-- an aggregate stands for nothing over rows
abbrev pub placed_call : ExprCall → Placed
placed_call call = record { row = Literal Null; calls = call ∷ []; group = λ layout. call_at layout call }

abbrev pub placed_by : (Expr → Expr) → Placed → Placed
placed_by f a = record { row = f a.row; calls = a.calls; group = λ layout. f (a.group layout) }

-- without an argument it is COUNT(*)
abbrev pub call_of : Agg → Option Placed → ExprCall
call_of agg None = record { agg = Count; argument = None }
call_of agg (Some a) = record { agg = agg; argument = Some a.row }

abbrev pub placed_step : List Header → Tree-F Placed → Placed
placed_step scope (Tree-F.Column place name) = record { row = Column (column_at scope name); calls = []; group = λ layout. group_at layout (column_at scope name) }
placed_step scope (Tree-F.Literal place v) = record { row = Literal v; calls = []; group = λ _. Literal v }
placed_step scope (Tree-F.Negate place a) = placed_by Negate a
placed_step scope (Tree-F.Binary place op a b) = record { row = Binary op a.row b.row; calls = a.calls ++ b.calls; group = λ layout. Binary op (a.group layout) (b.group layout) }
placed_step scope (Tree-F.Not place a) = placed_by Not a
placed_step scope (Tree-F.IsNull place a) = placed_by IsNull a
placed_step scope (Tree-F.Aggregate place agg a) = placed_call (call_of agg a)

abbrev pub placed : List Header → Tree → Placed
placed scope tree = fold-Tree Placed (placed_step scope) tree

-- the columns of GROUP BY, and the calls of items and HAVING in the order of tokens, both without repeats
abbrev pub layout_of : List Header → Select → Layout
layout_of scope select = record {
  groups = distinct ◌==◌ (group_places scope select);
  calls = distinct same_call (flat_map (λ tree. (placed scope tree).calls) (item_trees select.items ++ listed select.having));
}

-- ---- the Aggregate

abbrev pub column_node : Expr-F Expr → Option ℕ
column_node (Expr-F.Column at) = Some at
column_node node = None

-- the column that an expression is
abbrev pub column_in : Expr → Option ℕ
column_in e = column_node (out-Expr e)

abbrev pub takes_column : ExprCall → Bool
takes_column call = unwrap_or (option_map (λ e. is_some (column_in e)) call.argument) true

abbrev pub call_over : (Expr → ℕ) → ExprCall → AggCall
call_over place call = record { agg = call.agg; argument = option_map place call.argument }

-- an Aggregate whose group columns and arguments are in these places
abbrev pub aggregate_at : (Expr → ℕ) → Layout → RelTree → RelTree
aggregate_at place layout tree = unary (aggregate_by (map (λ column. place (Column column)) layout.groups) (map (call_over place) layout.calls)) tree

-- the group columns and then the arguments, each once
abbrev pub inputs : Layout → List Expr
inputs layout = distinct expr_eq (map Column layout.groups ++ flat_map (λ call. listed call.argument) layout.calls)

-- over a Project of the group columns and the arguments
abbrev pub over_project : Layout → RelTree → RelTree
over_project layout tree = aggregate_at (λ e. place_among expr_eq e (inputs layout)) layout (unary (project_to (inputs layout)) tree)

-- over a Project where an argument isn't a column
abbrev pub aggregate_tree : Layout → RelTree → RelTree
aggregate_tree layout tree =
    if list_all takes_column layout.calls then aggregate_at (λ e. unwrap_or (column_in e) 0) layout tree else over_project layout tree

-- ---- items

abbrev pub row_items : List Header → Items → List Expr
row_items scope Star = map Column (star_places 0 scope)
row_items scope (Listed items) = map (λ item. numbered scope item.tree) items

abbrev pub group_items : List Header → Layout → Items → List Expr
group_items scope layout Star = map (group_at layout) (star_places 0 scope)
group_items scope layout (Listed items) = map (λ item. (placed scope item.tree).group layout) items

abbrev pub row_answer : List Header → Select → RelTree → RelTree
row_answer scope select tree = unary (project_to (row_items scope select.items)) tree

abbrev pub group_answer : List Header → Layout → Select → RelTree → RelTree
group_answer scope layout select tree =
    unary (project_to (group_items scope layout select.items))
    (kept (λ condition. (placed scope condition).group layout) select.having (aggregate_tree layout tree))

abbrev pub answer_tree : List Header → Select → RelTree → RelTree
answer_tree scope select tree = if is_aggregate_query select then group_answer scope (layout_of scope select) select tree else row_answer scope select tree

-- ---- the whole

-- DISTINCT is an Aggregate on all columns without calls
abbrev pub once_tree : Bool → List ℕ → RelTree → RelTree
once_tree distinct_asked columns tree = if distinct_asked then unary (aggregate_by columns []) tree else tree

abbrev pub algebra_over : List Header → Select → RelTree → RelTree
algebra_over scope select tree = once_tree select.distinct (places_from 0 (row_items scope select.items)) (answer_tree scope select (kept (numbered scope) select.filter tree))

abbrev pub algebra : Schema → Select → RelTree
algebra schema select = algebra_over (scope_of schema select) select (from_tree schema select.from)
