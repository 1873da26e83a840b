-- The first walk: all of a document but the primary keys of tables that are read from files, and lattices.
use Rattle.std.specs.Prelude.{ℕ, ◌&&◌, ◌||◌, Bool, false, List, [], ◌∷◌, ◌++◌, length, nat_le, if◌then◌else◌, codes, Option, Some, None, option_map, unwrap_or, Result, Ok, Err}
use Rattle.std.specs.List.{list_any}
use Rattle.std.specs.Str.{bytes_eq, chars}
use Rattle.serde_json.specs.Data.{Data, Items, no_items, item}
use Rattle.serde_json.specs.Find.{get, as_str, as_object}
use Rattle.cal_value.specs.declared.limits.TheConstants.{NAME_LIMIT}
use Rattle.cal_schema.specs.Lookup.{is_same_name}
use Rattle.model_json.specs.declared.draft.Draft.{Draft}
use Rattle.model_json.specs.declared.draft.Drafts.{Drafts}
use Rattle.model_fields.specs.declared.fault.ModelCause.TheVariants.{WrongKind, Repeated, NoSuchName}
use Rattle.model_fields.specs.declared.fault.ModelFault.{ModelFault}
use Rattle.model_fields.specs.declared.fault.ModelFault.TheVariants.{BadModel}
use Rattle.model_fields.specs.Reading.{◌>>=◌, bad, in_turn, field, optional, under}
use Rattle.model_fields.specs.Kinds.{a_list, an_object, text, name, word}
use Rattle.model_json.specs.Tables.{tables}

-- ---- the default schema

abbrev pub is_text : List ℕ → Data → Bool
is_text s d = unwrap_or (option_map (λ found. bytes_eq found s) (as_str d)) false

abbrev pub is_schema_named : List ℕ → Data → Bool
is_schema_named s schema = unwrap_or (option_map (is_text s) (get (codes "name") schema)) false

abbrev pub has_schema : List ℕ → Items → Bool
has_schema s no_items = false
has_schema s (item d ds) = is_schema_named s d || has_schema s ds

abbrev pub schema_named : Items → List ℕ → Result (Option (List ℕ)) ModelFault
schema_named schemas s = if nat_le (length (chars s)) NAME_LIMIT && has_schema s schemas then Ok (Some (chars s)) else bad NoSuchName

-- the name of a schema
abbrev pub default_schema : Items → Data → Result (Option (List ℕ)) ModelFault
default_schema schemas d = text d >>= schema_named schemas

-- ---- schemas

-- the names of the schemas so far, and their tables
pub record Seen : Type 0 where
  pub names : List (List ℕ)
  pub tables : List Draft

abbrev pub seen : List (List ℕ) → List Draft → Seen
seen names ts = record { names = names; tables = ts }

abbrev pub with_name : List (List ℕ) → List ℕ → Result (List (List ℕ)) ModelFault
with_name before s = if list_any (is_same_name s) before then bad Repeated else Ok (before ++ s ∷ [])

abbrev pub schema_name : Data → Result (List ℕ) ModelFault
schema_name d = name d >>= λ s. Ok (chars s)

abbrev pub schema_name_at : Data → Result (List ℕ) ModelFault
schema_name_at schema = field (codes "name") schema_name schema

abbrev pub name_added : List (List ℕ) → List ℕ → Result (List (List ℕ)) ModelFault
name_added before s = under (codes "name") (with_name before s)

abbrev pub tables_at : ℕ → List ℕ → ℕ → Data → Result (List Draft) ModelFault
tables_at number s before schema = optional (codes "tables") [] (tables number s before) schema

-- the schema of this number, after those that were seen
abbrev pub schema : ℕ → Seen → Data → Result Seen ModelFault
schema number before d = do
  o ← an_object d
  s ← schema_name_at o
  names ← name_added before.names s
  _ ← optional (codes "type") tt (word (codes "map")) o
  ts ← tables_at number s (length before.tables) o
  Ok (seen names (before.tables ++ ts))

abbrev pub nothing_seen : Seen
nothing_seen = seen [] []

abbrev pub schemas : Items → Result Seen ModelFault
schemas ds = in_turn schema 0 nothing_seen ds

-- ---- the document

abbrev pub schemas_at : Data → Result Items ModelFault
schemas_at root = field (codes "schemas") a_list root

abbrev pub default_at : Items → Data → Result (Option (List ℕ)) ModelFault
default_at schemas root = optional (codes "defaultSchema") None (default_schema schemas) root

-- the tables of all schemas
abbrev pub schema_tables : Items → Result (List Draft) ModelFault
schema_tables ds = schemas ds >>= λ all. Ok all.tables

abbrev pub all_schemas : Items → Result (List Draft) ModelFault
all_schemas ds = under (codes "schemas") (schema_tables ds)

abbrev pub is_document : {A : Type 0} → Option A → Data → Result Data ModelFault
is_document None d = Err (BadModel (codes "/") WrongKind)
is_document (Some m) d = Ok d

abbrev pub a_document : Data → Result Data ModelFault
a_document d = is_document (as_object d) d

abbrev pub first_walk : Data → Result Drafts ModelFault
first_walk d = do
  root ← a_document d
  _ ← optional (codes "version") tt (word (codes "1.0")) root
  ds ← schemas_at root
  default ← default_at ds root
  ts ← all_schemas ds
  Ok (record { default_schema = default; tables = ts })
