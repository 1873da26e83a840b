-- The direct meaning of a SELECT: nested loops over FROM, the rows of which WHERE is TRUE, groups, the items, DISTINCT.
use Rattle.std.specs.Prelude.{ℕ, Bool, true, List, [], ◌∷◌, ◌++◌, length, map, filter, replicate, Option, option_map, option_and_then, unwrap_or, slice_get, if◌then◌else◌}
use Rattle.std.specs.List.{flat_map, list_all}
use Rattle.cal_value.specs.declared.value.Value.{Value}
use Rattle.cal_value.specs.declared.value.Value.TheVariants.{Null}
use Rattle.cal_value.specs.Equal.{row_eq}
use Rattle.cal_value.specs.Logic.{is_true}
use Rattle.cal_aggregate.specs.Parts.{members, parts, distinct}
use Rattle.cal_schema.specs.declared.column.ColumnDef.{ColumnDef}
use Rattle.cal_schema.specs.declared.database.Db.{Db}
use Rattle.cal_schema.specs.declared.schema.Schema.{Schema}
use Rattle.sql_tree.specs.declared.select.FromEntry.{FromEntry}
use Rattle.sql_tree.specs.declared.select.How.{How}
use Rattle.sql_tree.specs.declared.select.How.TheVariants.{First, Cross, Inner, Left}
use Rattle.sql_tree.specs.declared.select.Items.{Items}
use Rattle.sql_tree.specs.declared.select.Items.TheVariants.{Star, Listed}
use Rattle.sql_tree.specs.declared.select.Select.{Select}
use Rattle.sql_tree.specs.declared.tree.ColumnName.{ColumnName}
use Rattle.sql_tree.specs.declared.tree.Tree.{Tree}
use Rattle.sql_meaning.specs.Parts.{conditions, is_aggregate_query}
use Rattle.sql_meaning.specs.Scope.{number_of, header_of, hidden_by, is_among}
use Rattle.sql_meaning.specs.Value.{EntryRow, look_up, value, group_value}

-- ---- FROM

-- the rows of the entry's table
abbrev pub rows_of : Schema → Db → FromEntry → List (List Value)
rows_of schema db entry = unwrap_or (option_and_then (slice_get db.tables) (number_of schema entry.table)) []

abbrev pub entry_row : Schema → FromEntry → List Value → EntryRow
entry_row schema entry row = record { header = header_of schema entry; row = row }

-- the entries before with each row of this entry: all pairs, as the first entry, a comma and CROSS JOIN keep them
abbrev pub pairs : Schema → Db → FromEntry → List EntryRow → List (List EntryRow)
pairs schema db entry env = map (λ row. env ++ entry_row schema entry row ∷ []) (rows_of schema db entry)

-- each condition of the join is TRUE
abbrev pub goes : FromEntry → List EntryRow → Bool
goes entry env = list_all (λ tree. is_true (value env tree)) (conditions entry)

-- a row of NULLs
abbrev pub nulls : Schema → FromEntry → List Value
nulls schema entry = replicate (length (header_of schema entry).table.columns) Null

-- what is there, or else this alone
abbrev pub or_alone : {A : Type 0} → A → List A → List A
or_alone alone [] = alone ∷ []
or_alone alone (x ∷ xs) = x ∷ xs

-- LEFT JOIN keeps what has no partner once, with NULLs
abbrev pub padded : How → List EntryRow → List (List EntryRow) → List (List EntryRow)
padded First alone envs = envs
padded Cross alone envs = envs
padded (Inner cond) alone envs = envs
padded (Left cond) alone envs = or_alone alone envs

abbrev pub partners : Schema → Db → FromEntry → List EntryRow → List (List EntryRow)
partners schema db entry env =
    padded entry.how (env ++ entry_row schema entry (nulls schema entry) ∷ []) (filter (goes entry) (pairs schema db entry env))

-- nested loops over the entries from left to right
abbrev pub loops : Schema → Db → List FromEntry → List EntryRow → List (List EntryRow)
loops schema db [] env = env ∷ []
loops schema db (entry ∷ entries) env = flat_map (loops schema db entries) (partners schema db entry env)

-- ---- WHERE

-- a condition keeps what it is TRUE of, and none keeps all
abbrev pub keeps : Option Tree → List EntryRow → Bool
keeps condition env = unwrap_or (option_map (λ tree. is_true (value env tree)) condition) true

abbrev pub found : Schema → Db → Select → List (List EntryRow)
found schema db select = filter (keeps select.filter) (loops schema db select.from [])

-- ---- items

-- what belongs to the columns that aren't hidden
abbrev pub shown : {A : Type 0} → List (List ℕ) → List ColumnDef → List A → List A
shown hidden [] xs = []
shown hidden (c ∷ cs) [] = []
shown hidden (c ∷ cs) (x ∷ xs) = if is_among c.name hidden then shown hidden cs xs else x ∷ shown hidden cs xs

-- every entry's columns in order, without those of its own USING
abbrev pub star_values : List EntryRow → List Value
star_values env = flat_map (λ b. shown (hidden_by b.header.entry.how) b.header.table.columns b.row) env

abbrev pub item_values : Items → List EntryRow → List Value
item_values Star env = star_values env
item_values (Listed items) env = map (λ item. value env item.tree) items

-- ---- groups

-- NULL is equal to NULL
abbrev pub same_group : List ColumnName → List EntryRow → List EntryRow → Bool
same_group columns a b = row_eq (map (look_up a) columns) (map (look_up b) columns)

-- the groups of equal keys in order of first appearance; without columns all rows are one group, also where there are none
abbrev pub groups_of : List ColumnName → List (List EntryRow) → List (List (List EntryRow))
groups_of [] envs = envs ∷ []
groups_of (column ∷ columns) envs = map members (parts (same_group (column ∷ columns)) envs)

-- HAVING keeps the groups of which it is TRUE
abbrev pub keeps_group : Option Tree → List (List EntryRow) → Bool
keeps_group condition envs = unwrap_or (option_map (λ tree. is_true (group_value envs tree)) condition) true

abbrev pub first_star : List (List EntryRow) → List Value
first_star [] = []
first_star (env ∷ envs) = star_values env

abbrev pub group_items : Items → List (List EntryRow) → List Value
group_items Star envs = first_star envs
group_items (Listed items) envs = map (λ item. group_value envs item.tree) items

-- ---- the whole

abbrev pub answered : Select → List (List EntryRow) → List (List Value)
answered select envs =
    if is_aggregate_query select
    then map (group_items select.items) (filter (keeps_group select.having) (groups_of select.groups envs))
    else map (item_values select.items) envs

-- one of equal rows
abbrev pub once : Bool → List (List Value) → List (List Value)
once distinct_asked rows = if distinct_asked then distinct row_eq rows else rows

-- the rows that a SELECT means
abbrev pub direct : Select → Schema → Db → List (List Value)
direct select schema db = once select.distinct (answered select (found schema db select))
