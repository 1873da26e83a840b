-- The steps from the tables of FROM to what a SELECT has.
use Rattle.std.proofs.Common.{◌≡◌, ◌≢◌, ◌<◌, ◌≤◌, ◌+◌, ◌*◌, ◌^◌, ◌∙◌, ap, sym, subst, refl, arith, ℕ, zero, suc, Bool, true, false, cond, List, [], ◌∷◌, ◌++◌, length, map, get_or, All, Option, Some, None, slice_get, unwrap_or}
use Rattle.std.specs.Prelude.{nat_lt}
use Rattle.std.specs.Option.{option_and_then, option_or}
use Rattle.std.proofs.lemmas.Bool.Decides.{nat_tests}
use Rattle.std.proofs.lemmas.List.Elements.{All-head, All-tail}
use Rattle.cal_value.specs.declared.limits.TheConstants.{COLUMN_LIMIT, FROM_LIMIT}
use Rattle.cal_schema.specs.declared.refusal.Refusal.{Refusal}
use Rattle.cal_schema.specs.declared.refusal.Refusal.TheVariants.{TooManyTables}
use Rattle.cal_schema.specs.declared.schema.Schema.{Schema}
use Rattle.cal_schema.specs.declared.table.TableDef.{TableDef}
use Rattle.cal_schema.specs.Valid.{IsValidSchema, IsValidTable}
use Rattle.sql_tree.specs.declared.select.FromEntry.{FromEntry}
use Rattle.sql_tree.specs.declared.select.Select.{Select}
use Rattle.sql_tree.specs.declared.select.TableName.{TableName}
use Rattle.sql_meaning.specs.declared.mention.Mention.{Mention}
use Rattle.sql_meaning.specs.Mentions.{mentions}
use Rattle.sql_meaning.specs.Refused.{first_of, unknown_table, too_many_tables, unknown_column, ambiguous, type_clash, aggregate_misplaced, not_grouped, order_key, may_not_fit, causes, refusal_of}
use Rattle.sql_meaning.specs.Scope.{Header, header_of, no_table, number_of, scope_of, table_of, types_in}
use Rattle.sql_meaning.proofs.Places.{length-types}
use Rattle.sql_validator.specs.declared.validator.Outputs.{Outputs}
use Rattle.sql_names.specs.Tables.{AreNumbered}
use Rattle.sql_validator.specs.Walks.{HasOutputs, IsResolved, late_cause, scope_cause}

-- ---- columns are few

columns-there : (tables : List TableDef) (o : Option ℕ) → All IsValidTable tables → length (unwrap_or (option_and_then (slice_get tables) o) no_table).columns ≤ COLUMN_LIMIT
columns-there tables None valid = omega arith
columns-there [] (Some at) valid = omega arith
columns-there (t ∷ ts) (Some zero) valid = (All-head IsValidTable t ts valid).few_columns
columns-there (t ∷ ts) (Some (suc at)) valid = columns-there ts (Some at) (All-tail IsValidTable t ts valid)

few-types : (schema : Schema) (from : List FromEntry) → IsValidSchema schema → length (types_in (map (header_of schema) from)) ≤ length from * COLUMN_LIMIT
few-types schema [] valid = omega arith
few-types schema (e ∷ from) valid =
    let here : length (table_of schema e.table).columns ≤ COLUMN_LIMIT = columns-there schema.tables (number_of schema e.table) valid.tables in
    let later : length (types_in (map (header_of schema) from)) ≤ length from * COLUMN_LIMIT = few-types schema from valid in
    let both : length (types_in (header_of schema e ∷ map (header_of schema) from)) ≡ length (table_of schema e.table).columns + length (types_in (map (header_of schema) from)) = length-types (header_of schema e) (map (header_of schema) from) in
    omega arith

pub types-small : (schema : Schema) (from : List FromEntry) (scope : List Header) → IsValidSchema schema → length from ≤ FROM_LIMIT → scope ≡ map (header_of schema) from → length (types_in scope) < 2 ^ 32
types-small schema from scope valid few e =
    let most : length (types_in (map (header_of schema) from)) ≤ length from * COLUMN_LIMIT = few-types schema from valid in
    let P : List Header → Type 0 = λ s. length (types_in s) < 2 ^ 32 in
    subst P (sym e) (omega arith)

-- ---- the causes

assoc : {A : Type 0} (o p q : Option A) → option_or (option_or o p) q ≡ option_or o (option_or p q)
assoc None p q = refl
assoc (Some x) p q = refl

or-end : {A : Type 0} (o : Option A) → option_or o None ≡ o
or-end None = refl
or-end (Some x) = refl

told-lt : (a b : ℕ) → nat_lt a b ≡ true → a < b
told-lt a b e = grind (arith, nat_tests)

lt-told : (a b : ℕ) → a < b → nat_lt a b ≡ true
lt-told a b lt = grind (arith, nat_tests)

few-tables : (select : Select) → length select.from ≤ FROM_LIMIT → too_many_tables select ≡ None
few-tables select few = by (nat_lt FROM_LIMIT (length select.from)) refl
  where
    by : (b : Bool) → nat_lt FROM_LIMIT (length select.from) ≡ b → cond b (Some (TooManyTables FROM_LIMIT)) None ≡ None
    by false e = refl
    by true e = let past : FROM_LIMIT < length select.from = told-lt FROM_LIMIT (length select.from) e in absurd (omega arith)

many-tables : (select : Select) → FROM_LIMIT < length select.from → too_many_tables select ≡ Some (TooManyTables FROM_LIMIT)
many-tables select many = ap (λ b. cond b (Some (TooManyTables FROM_LIMIT)) None) (lt-told FROM_LIMIT (length select.from) many)

-- behind known tables that aren't too many stand the causes that come from the entries
pub refusal-scope : (schema : Schema) (before : ℕ) (select : Select) → unknown_table schema select ≡ None → length select.from ≤ FROM_LIMIT → refusal_of schema before select ≡ scope_cause (scope_of schema select) before select
refusal-scope schema before select known few =
    ap (λ o. option_or o (option_or (too_many_tables select) rest)) known
    ∙ ap (λ o. option_or o rest) (few-tables select few)
    ∙ sym (assoc (unknown_column all) (ambiguous all) _
    ∙ ap (λ o. option_or (unknown_column all) (option_or (ambiguous all) o)) (assoc (type_clash scope select) (aggregate_misplaced select) (late_cause scope before select)
    ∙ ap (λ o. option_or (type_clash scope select) (option_or (aggregate_misplaced select) (option_or (not_grouped scope before select) (option_or (order_key scope select) o)))) (sym (or-end (may_not_fit scope select)))))
  where
    scope : List Header
    scope = scope_of schema select

    all : List Mention
    all = mentions scope select

    rest : Option Refusal
    rest = first_of (unknown_column all ∷ ambiguous all ∷ type_clash scope select ∷ aggregate_misplaced select ∷ not_grouped scope before select ∷ order_key scope select ∷ may_not_fit scope select ∷ [])

pub refusal-tables : (schema : Schema) (before : ℕ) (select : Select) (refusal : Refusal) → unknown_table schema select ≡ Some refusal → refusal_of schema before select ≡ Some refusal
refusal-tables schema before select refusal e = ap (λ o. option_or o (first_of (drop-one (causes schema before select)))) e
  where
    drop-one : List (Option Refusal) → List (Option Refusal)
    drop-one [] = []
    drop-one (o ∷ os) = os

pub refusal-many : (schema : Schema) (before : ℕ) (select : Select) → unknown_table schema select ≡ None → FROM_LIMIT < length select.from → refusal_of schema before select ≡ Some (TooManyTables FROM_LIMIT)
refusal-many schema before select known many =
    ap (λ o. option_or o (option_or (too_many_tables select) (first_of (drop-two (causes schema before select))))) known
    ∙ ap (λ o. option_or o (first_of (drop-two (causes schema before select)))) (many-tables select many)
  where
    drop-two : List (Option Refusal) → List (Option Refusal)
    drop-two (a ∷ b ∷ os) = os
    drop-two (a ∷ []) = []
    drop-two [] = []

-- ---- the answer

pub is_resolved : (schema : Schema) (before : ℕ) (select : Select) (tables : List ℕ) (scope : List Header) (made : Outputs) → scope ≡ scope_of schema select → unknown_table schema select ≡ None → length select.from ≤ FROM_LIMIT
    → AreNumbered schema select.from tables → scope_cause scope before select ≡ None → HasOutputs scope select made → IsResolved schema before select tables made
is_resolved schema before select tables scope made is known few numbers accepted outputs = record {
  accepted = refusal-scope schema before select known few ∙ ap (λ s. scope_cause s before select) (sym is) ∙ accepted;
  tables_are = numbers;
  outputs = (let P : List Header → Type 0 = λ s. HasOutputs s select made in subst P is outputs);
}

pub is_refused : (schema : Schema) (before : ℕ) (select : Select) (scope : List Header) (refusal : Refusal) → scope ≡ scope_of schema select → unknown_table schema select ≡ None → length select.from ≤ FROM_LIMIT
    → scope_cause scope before select ≡ Some refusal → refusal_of schema before select ≡ Some refusal
is_refused schema before select scope refusal is known few told = refusal-scope schema before select known few ∙ ap (λ s. scope_cause s before select) (sym is) ∙ told
