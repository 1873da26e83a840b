-- The columns of an answer: their names, and which columns of FROM they are.
use Rattle.std.specs.Prelude.{ℕ, ◌+◌, List, [], ◌∷◌, ◌++◌, length, map, codes, decimal, Option, Some, None, unwrap_or}
use Rattle.std.specs.List.{flat_map}
use Rattle.sql_tree.specs.declared.select.Item.{Item}
use Rattle.sql_tree.specs.declared.select.Items.{Items}
use Rattle.sql_tree.specs.declared.select.Items.TheVariants.{Star, Listed}
use Rattle.sql_tree.specs.declared.tree.Tree.{Tree}
use Rattle.sql_tree.specs.declared.tree.Tree.TheOpen.{Tree-F}
use Rattle.sql_tree.specs.declared.tree.Tree.TheViews.{out-Tree}
use Rattle.sql_meaning.specs.Scope.{Header, hidden_by, place_of}
use Rattle.sql_meaning.specs.Direct.{shown}

-- EXPR$k
abbrev pub made_name : ℕ → List ℕ
made_name k = codes "EXPR$" ++ decimal k

abbrev pub name_of_node : ℕ → Tree-F Tree → List ℕ
name_of_node k (Tree-F.Column place name) = name.name
name_of_node k (Tree-F.Literal place v) = made_name k
name_of_node k (Tree-F.Negate place a) = made_name k
name_of_node k (Tree-F.Binary place op a b) = made_name k
name_of_node k (Tree-F.Not place a) = made_name k
name_of_node k (Tree-F.IsNull place a) = made_name k
name_of_node k (Tree-F.Aggregate place agg a) = made_name k

-- the alias, else the column's name, else EXPR$k, k being the item's place from 0
abbrev pub item_name : ℕ → Item → List ℕ
item_name k item = unwrap_or item.alias (name_of_node k (out-Tree item.tree))

abbrev pub item_names : ℕ → List Item → List (List ℕ)
item_names k [] = []
item_names k (item ∷ items) = item_name k item ∷ item_names (k + 1) items

-- the names of the entry's columns in order, without those of its own USING
abbrev pub shown_names : Header → List (List ℕ)
shown_names h = shown (hidden_by h.entry.how) h.table.columns (map (λ c. c.name) h.table.columns)

abbrev pub star_names : List Header → List (List ℕ)
star_names scope = flat_map shown_names scope

abbrev pub output_names : List Header → Items → List (List ℕ)
output_names scope Star = star_names scope
output_names scope (Listed items) = item_names 0 items

-- ---- which columns of FROM

-- the places from this one on, one for each
abbrev pub places_from : {A : Type 0} → ℕ → List A → List ℕ
places_from at [] = []
places_from at (x ∷ xs) = at ∷ places_from (at + 1) xs

-- the places of the columns of `*` among those of all entries, of which so many stand before
abbrev pub star_places : ℕ → List Header → List ℕ
star_places before [] = []
star_places before (h ∷ hs) =
    shown (hidden_by h.entry.how) h.table.columns (places_from before h.table.columns) ++ star_places (before + length h.table.columns) hs

abbrev pub place_of_node : List Header → Tree-F Tree → Option ℕ
place_of_node scope (Tree-F.Column place name) = place_of scope name
place_of_node scope (Tree-F.Literal place v) = None
place_of_node scope (Tree-F.Negate place a) = None
place_of_node scope (Tree-F.Binary place op a b) = None
place_of_node scope (Tree-F.Not place a) = None
place_of_node scope (Tree-F.IsNull place a) = None
place_of_node scope (Tree-F.Aggregate place agg a) = None

-- of each column of the answer the place of the column that it is, where it is one
abbrev pub output_places : List Header → Items → List (Option ℕ)
output_places scope Star = map Some (star_places 0 scope)
output_places scope (Listed items) = map (λ item. place_of_node scope (out-Tree item.tree)) items
