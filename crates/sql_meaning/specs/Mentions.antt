-- The names of columns and aliases in a SELECT, in the order of their tokens, each with how many entries of FROM it may stand for.
use Rattle.std.specs.Prelude.{ℕ, Bool, List, [], ◌∷◌, ◌++◌, map, position, count_by, is_some, None, if◌then◌else◌}
use Rattle.std.specs.List.{flat_map}
use Rattle.std.specs.Option.{is_none}
use Rattle.cal_schema.specs.declared.refusal.WrittenName.{WrittenName}
use Rattle.cal_schema.specs.Lookup.{is_same_name}
use Rattle.sql_tree.specs.declared.select.Cond.{Cond}
use Rattle.sql_tree.specs.declared.select.Cond.TheVariants.{On, Using}
use Rattle.sql_tree.specs.declared.select.How.{How}
use Rattle.sql_tree.specs.declared.select.How.TheVariants.{First, Cross, Inner, Left}
use Rattle.sql_tree.specs.declared.select.KeyBy.{KeyBy}
use Rattle.sql_tree.specs.declared.select.KeyBy.TheVariants.{Place, Column}
use Rattle.sql_tree.specs.declared.select.OrderKey.{OrderKey}
use Rattle.sql_tree.specs.declared.select.Select.{Select}
use Rattle.sql_tree.specs.declared.tree.ColumnName.{ColumnName}
use Rattle.sql_tree.specs.declared.tree.Tree.{Tree}
use Rattle.sql_meaning.specs.declared.mention.Mention.{Mention}
use Rattle.sql_meaning.specs.Parts.{columns_in, item_trees, listed}
use Rattle.sql_meaning.specs.Scope.{Header, homes}

abbrev pub column_name : ColumnName → WrittenName
column_name c = record { qualifier = c.alias; name = c.name }

abbrev pub unqualified : List ℕ → ColumnName
unqualified name = record { alias = None; name = name }

abbrev pub column_mention : List Header → ColumnName → Mention
column_mention scope c = record { name = column_name c; homes = homes scope c }

abbrev pub tree_mentions : List Header → Tree → List Mention
tree_mentions scope tree = map (column_mention scope) (columns_in tree)

-- ---- entries of FROM

-- an alias stands for each entry so far that has it
abbrev pub alias_mention : List Header → Header → Mention
alias_mention before h = record {
  name = record { qualifier = None; name = h.entry.alias };
  homes = count_by (λ b. is_same_name b.entry.alias h.entry.alias) (before ++ h ∷ []);
}

abbrev pub has_column : Header → List ℕ → Bool
has_column h name = is_some (position (λ d. is_same_name d.name name) h.table.columns)

-- a name of USING stands for a column of the entries before, and the entry has one of that name too
abbrev pub using_mention : List Header → Header → List ℕ → Mention
using_mention before h name = record {
  name = record { qualifier = None; name = name };
  homes = if has_column h name then homes before (unqualified name) else 0;
}

abbrev pub cond_mentions : List Header → Header → Cond → List Mention
cond_mentions before h (On tree) = tree_mentions (before ++ h ∷ []) tree
cond_mentions before h (Using names) = map (λ n. using_mention before h n.name) names

abbrev pub how_mentions : List Header → Header → How → List Mention
how_mentions before h First = []
how_mentions before h Cross = []
how_mentions before h (Inner cond) = cond_mentions before h cond
how_mentions before h (Left cond) = cond_mentions before h cond

abbrev pub entry_mentions : List Header → Header → List Mention
entry_mentions before h = alias_mention before h ∷ how_mentions before h h.entry.how

abbrev pub from_mentions : List Header → List Header → List Mention
from_mentions before [] = []
from_mentions before (h ∷ hs) = entry_mentions before h ++ from_mentions (before ++ h ∷ []) hs

-- ---- the whole

-- a name alone in ORDER BY is none of a column of FROM
abbrev pub named_by : KeyBy → List ColumnName
named_by (Place n) = []
named_by (Column c) = if is_none c.alias then [] else c ∷ []

abbrev pub key_names : List OrderKey → List ColumnName
key_names keys = flat_map (λ key. named_by key.by) keys

abbrev pub mentions : List Header → Select → List Mention
mentions scope select =
    flat_map (tree_mentions scope) (item_trees select.items)
    ++ from_mentions [] scope
    ++ flat_map (tree_mentions scope) (listed select.filter)
    ++ map (column_mention scope) select.groups
    ++ flat_map (tree_mentions scope) (listed select.having)
    ++ map (column_mention scope) (key_names select.order)

-- ---- references

abbrev pub cond_columns : Cond → List ColumnName
cond_columns (On tree) = columns_in tree
cond_columns (Using names) = []

abbrev pub how_columns : How → List ColumnName
how_columns First = []
how_columns Cross = []
how_columns (Inner cond) = cond_columns cond
how_columns (Left cond) = cond_columns cond

-- the columns that are referred to, in the order of their tokens; a name of USING is no reference
abbrev pub references : Select → List ColumnName
references select =
    flat_map columns_in (item_trees select.items)
    ++ flat_map (λ entry. how_columns entry.how) select.from
    ++ flat_map columns_in (listed select.filter)
    ++ select.groups
    ++ flat_map columns_in (listed select.having)
    ++ key_names select.order
