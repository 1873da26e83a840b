-- Aggregates where none may stand, and columns outside the groups.
use Rattle.std.specs.Prelude.{ℕ, ◌==◌, Bool, List, [], ◌∷◌, ◌++◌, map, Option, None, Some, if◌then◌else◌}
use Rattle.std.specs.List.{flat_map, list_all, list_any}
use Rattle.sql_tree.specs.declared.select.Items.{Items}
use Rattle.sql_tree.specs.declared.select.Items.TheVariants.{Star, Listed}
use Rattle.sql_tree.specs.declared.select.Select.{Select}
use Rattle.sql_tree.specs.declared.tree.Tree.{Tree}
use Rattle.sql_tree.specs.declared.tree.Tree.TheFolds.{fold-Tree}
use Rattle.sql_tree.specs.declared.tree.Tree.TheOpen.{Tree-F}
use Rattle.sql_meaning.specs.declared.parts.SelectPart.{SelectPart}
use Rattle.sql_meaning.specs.Kinds.{unless}
use Rattle.sql_meaning.specs.Names.{star_places}
use Rattle.sql_meaning.specs.Parts.{is_of_groups, parts_of}
use Rattle.sql_meaning.specs.Scope.{Header, column_at}

-- ---- aggregates

-- the places of all aggregates, and of those within another one
pub record Aggregates : Type 0 where
  pub all : List ℕ
  pub nested : List ℕ

abbrev pub no_aggregates : Aggregates
no_aggregates = record { all = []; nested = [] }

abbrev pub aggregate_at : ℕ → Option Aggregates → Aggregates
aggregate_at place None = record { all = place ∷ []; nested = [] }
aggregate_at place (Some a) = record { all = place ∷ a.all; nested = a.all }

abbrev pub aggregates_step : Tree-F Aggregates → Aggregates
aggregates_step (Tree-F.Column place name) = no_aggregates
aggregates_step (Tree-F.Literal place v) = no_aggregates
aggregates_step (Tree-F.Negate place a) = a
aggregates_step (Tree-F.Binary place op a b) = record { all = a.all ++ b.all; nested = a.nested ++ b.nested }
aggregates_step (Tree-F.Not place a) = a
aggregates_step (Tree-F.IsNull place a) = a
aggregates_step (Tree-F.Aggregate place agg a) = aggregate_at place a

abbrev pub aggregates_in : Tree → Aggregates
aggregates_in tree = fold-Tree Aggregates aggregates_step tree

-- none may stand in WHERE, in ON and in another aggregate
abbrev pub misplaced_in : SelectPart → List ℕ
misplaced_in part = if is_of_groups part.role then (aggregates_in part.tree).nested else (aggregates_in part.tree).all

-- ---- columns

abbrev pub is_grouped : List ℕ → ℕ → Bool
is_grouped groups at = list_any (λ group. group == at) groups

-- the places of the columns outside aggregates that are none of the groups'
abbrev pub ungrouped_step : List Header → List ℕ → Tree-F (List ℕ) → List ℕ
ungrouped_step scope groups (Tree-F.Column place name) = unless (is_grouped groups (column_at scope name)) place
ungrouped_step scope groups (Tree-F.Literal place v) = []
ungrouped_step scope groups (Tree-F.Negate place a) = a
ungrouped_step scope groups (Tree-F.Binary place op a b) = a ++ b
ungrouped_step scope groups (Tree-F.Not place a) = a
ungrouped_step scope groups (Tree-F.IsNull place a) = a
ungrouped_step scope groups (Tree-F.Aggregate place agg a) = []

abbrev pub ungrouped : List Header → List ℕ → Tree → List ℕ
ungrouped scope groups tree = fold-Tree (List ℕ) (ungrouped_step scope groups) tree

abbrev pub part_ungrouped : List Header → List ℕ → SelectPart → List ℕ
part_ungrouped scope groups part = if is_of_groups part.role then ungrouped scope groups part.tree else []

-- `*`, at this place, counts as each of its columns
abbrev pub star_ungrouped : List Header → List ℕ → ℕ → Items → List ℕ
star_ungrouped scope groups place Star = unless (list_all (is_grouped groups) (star_places 0 scope)) place
star_ungrouped scope groups place (Listed items) = []

abbrev pub group_places : List Header → Select → List ℕ
group_places scope select = map (column_at scope) select.groups

-- in an aggregate query whose `*` has this place
abbrev pub all_ungrouped : List Header → ℕ → Select → List ℕ
all_ungrouped scope place select =
    star_ungrouped scope (group_places scope select) place select.items
    ++ flat_map (part_ungrouped scope (group_places scope select)) (parts_of select)
