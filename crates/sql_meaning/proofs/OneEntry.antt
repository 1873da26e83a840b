-- A plain SELECT.
use Rattle.std.specs.Prelude.{◌≡◌, ◌<◌, ◌&&◌, ℕ, length, not, Some, unwrap_or, slice_get, refl, List, [], ◌∷◌, map, filter, Bool, true, false, if◌then◌else◌}
use Rattle.std.specs.List.{flat_map, list_all}
use Rattle.std.specs.Option.{option_and_then}
use Rattle.std.proofs.Common.{ap, sym, get_or, ◌∙◌}
use Rattle.std.proofs.lemmas.Option.{slice_get-get_or}
use Rattle.cal_value.specs.Logic.{is_true}
use Rattle.cal_schema.specs.declared.table.TableDef.{TableDef}
use Rattle.cal_schema.specs.declared.database.Db.{Db}
use Rattle.cal_schema.specs.declared.schema.Schema.{Schema}
use Rattle.sql_tree.specs.declared.select.FromEntry.{FromEntry}
use Rattle.sql_tree.specs.declared.select.How.{How}
use Rattle.sql_tree.specs.declared.select.How.TheVariants.{First, Cross, Inner, Left}
use Rattle.sql_tree.specs.declared.select.Select.{Select}
use Rattle.sql_tree.specs.declared.select.TableName.{TableName}
use Rattle.sql_meaning.specs.Parts.{conditions_by, is_aggregate_query, is_empty}
use Rattle.sql_meaning.specs.Refused.{is_first, is_plain, is_single}
use Rattle.sql_meaning.specs.Value.{EntryRow, value}
use Rattle.sql_meaning.specs.Scope.{header, header_of, no_table, number_of, scope_of, table_of}
use Rattle.sql_meaning.specs.Direct.{answered, direct, entry_row, found, goes, group_items, groups_of, item_values, keeps, keeps_group, loops, nulls, once, padded, pairs, partners, rows_of}

singles : {A : Type 0} (xs : List A) → flat_map (λ x. x ∷ []) xs ≡ xs
singles [] = refl
singles (x ∷ xs) = ap (λ rest. x ∷ rest) (singles xs)

filtered : {A B : Type 0} (f : A → B) (p : B → Bool) (xs : List A) → filter p (map f xs) ≡ map f (filter (λ x. p (f x)) xs)
filtered f p [] = refl
filtered f p (x ∷ xs) = at_test (p (f x)) (filtered f p xs)
  where
    at_test : (b : Bool) → filter p (map f xs) ≡ map f (filter (λ y. p (f y)) xs) → (if b then f x ∷ filter p (map f xs) else filter p (map f xs)) ≡ map f (if b then x ∷ filter (λ y. p (f y)) xs else filter (λ y. p (f y)) xs)
    at_test true more = ap (λ rest. f x ∷ rest) more
    at_test false more = more

mapped : {A B C : Type 0} (f : A → B) (g : B → C) (xs : List A) → map g (map f xs) ≡ map (λ x. g (f x)) xs
mapped f g [] = refl
mapped f g (x ∷ xs) = ap (λ rest. g (f x) ∷ rest) (mapped f g xs)

every : {A : Type 0} (xs : List A) → filter (λ _. true) xs ≡ xs
every [] = refl
every (x ∷ xs) = ap (λ rest. x ∷ rest) (every xs)

-- the first entry is joined with nothing
alone : (schema : Schema) (db : Db) (entry : FromEntry) → is_first entry.how ≡ true → partners schema db entry [] ≡ pairs schema db entry []
alone schema db entry first = by entry.how refl first
  where
    none : List EntryRow
    none = entry_row schema entry (nulls schema entry) ∷ []

    kept : (how : How) → List EntryRow → Bool
    kept how env = list_all (λ tree. is_true (value env tree)) (conditions_by entry.alias how)

    by : (how : How) → entry.how ≡ how → is_first how ≡ true → padded entry.how none (filter (goes entry) (pairs schema db entry [])) ≡ pairs schema db entry []
    by First e f = ap (λ how. padded how none (filter (kept how) (pairs schema db entry []))) e ∙ every (pairs schema db entry [])
    by Cross e f = absurd (cc)
    by (Inner cond) e f = absurd (cc)
    by (Left cond) e f = absurd (cc)

-- what a plain SELECT says
pub record IsPlain (select : Select) : Type 0 where
  pub once_each : select.distinct ≡ false
  pub single : is_single select.from ≡ true
  pub no_groups : is_aggregate_query select ≡ false
  pub no_order : is_empty select.order ≡ true

plain-parts : (a b c d : Bool) → ((not a && b) && (not c && d)) ≡ true → (a ≡ false) × (b ≡ true) × (c ≡ false) × (d ≡ true)
plain-parts false true false true e = (refl, refl, refl, refl)
plain-parts true b c d e = absurd (cc)
plain-parts false false c d e = absurd (cc)
plain-parts false true true d e = absurd (cc)
plain-parts false true false false e = absurd (cc)

pub plain-says : (select : Select) → is_plain select ≡ true → IsPlain select
plain-says select e =
    let p = plain-parts select.distinct (is_single select.from) (is_aggregate_query select) (is_empty select.order) e in
    record { once_each = p.0; single = p.1; no_groups = p.2; no_order = p.3 }

single-first : (entry : FromEntry) → is_single (entry ∷ []) ≡ true → is_first entry.how ≡ true
single-first entry e = by (is_first entry.how) e
  where
    by : (b : Bool) → (b && true) ≡ true → b ≡ true
    by true e = refl
    by false e = absurd (cc)

pub direct_of_one : (select : Select) (schema : Schema) (db : Db) (entry : FromEntry) → is_plain select ≡ true → select.from ≡ entry ∷ [] →
    direct select schema db ≡ map (λ row. item_values select.items (entry_row schema entry row ∷ [])) (filter (λ row. keeps select.filter (entry_row schema entry row ∷ [])) (rows_of schema db entry))
direct_of_one select schema db entry plain one =
    let p = plain-says select plain in
    let first : is_first entry.how ≡ true = single-first entry (sym (ap is_single one) ∙ p.single) in
    ap (λ b. once b (answered select (found schema db select))) p.once_each
    ∙ ap (λ b. if b then map (group_items select.items) (filter (keeps_group select.having) (groups_of select.groups (found schema db select))) else map (item_values select.items) (found schema db select)) p.no_groups
    ∙ ap (λ from. map (item_values select.items) (filter (keeps select.filter) (loops schema db from []))) one
    ∙ ap (λ envs. map (item_values select.items) (filter (keeps select.filter) (flat_map (λ env. env ∷ []) envs))) (alone schema db entry first)
    ∙ ap (λ envs. map (item_values select.items) (filter (keeps select.filter) envs)) (singles (pairs schema db entry []))
    ∙ ap (map (item_values select.items)) (filtered (λ row. entry_row schema entry row ∷ []) (keeps select.filter) (rows_of schema db entry))
    ∙ mapped (λ row. entry_row schema entry row ∷ []) (item_values select.items) _

-- ---- its table is known

pub table-known : (schema : Schema) (name : TableName) (number : ℕ) (table : TableDef) → Some number ≡ number_of schema name → number < length schema.tables → table ≡ get_or schema.tables number table → table_of schema name ≡ table
table-known schema name number table e lt is =
    ap (λ o. unwrap_or (option_and_then (slice_get schema.tables) o) no_table) (sym e)
    ∙ ap (λ o. unwrap_or o no_table) (slice_get-get_or schema.tables number table lt)
    ∙ sym is

pub scope-one : (schema : Schema) (select : Select) (entry : FromEntry) (number : ℕ) (table : TableDef) → select.from ≡ entry ∷ [] → Some number ≡ number_of schema entry.table → number < length schema.tables
    → table ≡ get_or schema.tables number table → scope_of schema select ≡ header entry table ∷ []
scope-one schema select entry number table only e lt is =
    ap (map (header_of schema)) only
    ∙ ap (λ (t : TableDef). header entry t ∷ []) (table-known schema entry.table number table e lt is)
