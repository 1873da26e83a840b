-- Why a SELECT is refused: the first cause that holds.
use Rattle.std.specs.Prelude.{ℕ, ◌+◌, ◌==◌, ◌&&◌, nat_lt, Bool, true, false, not, List, [], ◌∷◌, length, find, Option, Some, None, option_map, if◌then◌else◌}
use Rattle.std.specs.List.{flat_map}
use Rattle.std.specs.Option.{is_none, option_or}
use Rattle.cal_value.specs.declared.limits.TheConstants.{FROM_LIMIT}
use Rattle.cal_schema.specs.declared.refusal.Refusal.{Refusal}
use Rattle.cal_schema.specs.declared.refusal.Refusal.TheVariants.{UnknownTable, TooManyTables, UnknownColumn, Ambiguous, TypeClash, AggregateMisplaced, NotGrouped, OrderKey as BadOrderKey, MayNotFit}
use Rattle.cal_schema.specs.declared.refusal.WrittenName.{WrittenName}
use Rattle.cal_schema.specs.declared.schema.Schema.{Schema}
use Rattle.sql_tree.specs.declared.select.FromEntry.{FromEntry}
use Rattle.sql_tree.specs.declared.select.How.{How}
use Rattle.sql_tree.specs.declared.select.How.TheVariants.{First, Cross, Inner, Left}
use Rattle.sql_tree.specs.declared.select.OrderKey.{OrderKey}
use Rattle.sql_tree.specs.declared.select.Select.{Select}
use Rattle.sql_tree.specs.declared.select.TableName.{TableName}
use Rattle.sql_meaning.specs.declared.mention.Mention.{Mention}
use Rattle.sql_meaning.specs.declared.misfit.Misfit.{Misfit}
use Rattle.sql_meaning.specs.Bounds.{bound_of}
use Rattle.sql_meaning.specs.Groups.{all_ungrouped, misplaced_in}
use Rattle.sql_meaning.specs.Kinds.{part_clashes}
use Rattle.sql_meaning.specs.Mentions.{mentions}
use Rattle.sql_meaning.specs.Order.{key_column}
use Rattle.sql_meaning.specs.Parts.{is_aggregate_query, is_empty, parts_of}
use Rattle.sql_meaning.specs.Scope.{Header, number_of, scope_of}
use Rattle.sql_meaning.specs.Sizes.{part_misfits}

-- ---- the first of many

abbrev pub lower : ℕ → Option ℕ → Option ℕ
lower place None = Some place
lower place (Some other) = Some (if nat_lt other place then other else place)

abbrev pub lowest : List ℕ → Option ℕ
lowest [] = None
lowest (place ∷ places) = lower place (lowest places)

abbrev pub nearer : Misfit → Option Misfit → Option Misfit
nearer m None = Some m
nearer m (Some n) = Some (if nat_lt n.place m.place then n else m)

-- the misfit with the lowest place
abbrev pub nearest : List Misfit → Option Misfit
nearest [] = None
nearest (m ∷ ms) = nearer m (nearest ms)

-- the first that is there
abbrev pub first_of : {A : Type 0} → List (Option A) → Option A
first_of [] = None
first_of (o ∷ os) = option_or o (first_of os)

-- ---- the causes

abbrev pub table_name : TableName → WrittenName
table_name t = record { qualifier = t.schema; name = t.name }

abbrev pub is_unknown_table : Schema → FromEntry → Bool
is_unknown_table schema entry = is_none (number_of schema entry.table)

-- the first entry of FROM of which there is no table
abbrev pub unknown_table : Schema → Select → Option Refusal
unknown_table schema select = option_map (λ e. UnknownTable (table_name e.table)) (find (is_unknown_table schema) select.from)

abbrev pub too_many_tables : Select → Option Refusal
too_many_tables select = if nat_lt FROM_LIMIT (length select.from) then Some (TooManyTables FROM_LIMIT) else None

-- the first column that no entry has
abbrev pub unknown_column : List Mention → Option Refusal
unknown_column all = option_map (λ m. UnknownColumn m.name) (find (λ m. m.homes == 0) all)

-- the first name that two entries have
abbrev pub ambiguous : List Mention → Option Refusal
ambiguous all = option_map (λ m. Ambiguous m.name) (find (λ m. nat_lt 1 m.homes) all)

abbrev pub all_clashes : List Header → Select → List ℕ
all_clashes scope select = flat_map (part_clashes scope) (parts_of select)

-- the lowest place at which kinds don't go together
abbrev pub type_clash : List Header → Select → Option Refusal
type_clash scope select = option_map TypeClash (lowest (all_clashes scope select))

-- the lowest place of an aggregate where none may stand
abbrev pub aggregate_misplaced : Select → Option Refusal
aggregate_misplaced select = option_map AggregateMisplaced (lowest (flat_map misplaced_in (parts_of select)))

-- the place of `*`, behind so many tokens and SELECT
abbrev pub star_place : ℕ → Select → ℕ
star_place before select = if select.distinct then before + 2 else before + 1

-- the lowest place of a column outside the groups
abbrev pub not_grouped : List Header → ℕ → Select → Option Refusal
not_grouped scope before select = if is_aggregate_query select then option_map NotGrouped (lowest (all_ungrouped scope (star_place before select) select)) else None

abbrev pub names_no_column : List Header → Select → OrderKey → Bool
names_no_column scope select key = is_none (key_column scope select.items key.by)

-- the first key of ORDER BY that names no column of the answer
abbrev pub order_key : List Header → Select → Option Refusal
order_key scope select = option_map (λ k. BadOrderKey k.place) (find (names_no_column scope select) select.order)

abbrev pub all_misfits : List Header → Select → List Misfit
all_misfits scope select = flat_map (part_misfits (bound_of scope) scope) (parts_of select)

-- the misfit with the lowest place
abbrev pub may_not_fit : List Header → Select → Option Refusal
may_not_fit scope select = option_map (λ m. MayNotFit m.place m.lo m.hi) (nearest (all_misfits scope select))

-- the causes in their order, of a SELECT behind so many tokens
abbrev pub causes : Schema → ℕ → Select → List (Option Refusal)
causes schema before select =
    unknown_table schema select
    ∷ too_many_tables select
    ∷ unknown_column (mentions (scope_of schema select) select)
    ∷ ambiguous (mentions (scope_of schema select) select)
    ∷ type_clash (scope_of schema select) select
    ∷ aggregate_misplaced select
    ∷ not_grouped (scope_of schema select) before select
    ∷ order_key (scope_of schema select) select
    ∷ may_not_fit (scope_of schema select) select
    ∷ []

-- the first cause that holds
abbrev pub refusal_of : Schema → ℕ → Select → Option Refusal
refusal_of schema before select = first_of (causes schema before select)

-- ---- forms that are answered

-- what no entry stands before is joined with nothing
abbrev pub is_first : How → Bool
is_first First = true
is_first Cross = false
is_first (Inner cond) = false
is_first (Left cond) = false

-- there is one entry, which is the first
abbrev pub is_single : List FromEntry → Bool
is_single [] = false
is_single (entry ∷ entries) = is_first entry.how && is_empty entries

-- one entry of FROM, no aggregate, and neither DISTINCT, GROUP BY, HAVING nor ORDER BY
abbrev pub is_plain : Select → Bool
is_plain select =
    (not select.distinct && is_single select.from)
    && (not (is_aggregate_query select) && is_empty select.order)
