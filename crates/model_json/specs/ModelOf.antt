-- What a model file means: a model, or the first fault in the order of the fields.
use Rattle.std.specs.Prelude.{◌≡◌, ◌≤◌, All, IfSome, ℕ, List, [], ◌∷◌, ◌++◌, length, map, if◌then◌else◌, slice_get, codes, Option, Some, None, option_and_then, unwrap_or, Result, Ok, Err, ⊤}
use Rattle.std.specs.Fmt.{decimal}
use Rattle.std.specs.List.{AllZip}
use Rattle.std.specs.Str.{is_utf8}
use Rattle.serde_json.specs.Data.{Data, Items, no_items, item}
use Rattle.serde_json.specs.Read.{read}
use Rattle.serde_json.specs.View.{view}
use Rattle.cal_value.specs.declared.limits.TheConstants.{COLUMN_LIMIT, TABLE_LIMIT}
use Rattle.cal_value.specs.declared.value.Value.{Value}
use Rattle.cal_schema.specs.declared.column.ColumnDef.{ColumnDef}
use Rattle.cal_schema.specs.declared.table.AdapterKind.{AdapterKind}
use Rattle.cal_schema.specs.declared.table.AdapterKind.TheVariants.{Csv, Mem}
use Rattle.cal_schema.specs.declared.table.TableDef.{TableDef}
use Rattle.cal_schema.specs.Fits.{IsFilledBy}
use Rattle.cal_schema.specs.Valid.{IsHeader}
use Rattle.model_json.specs.declared.draft.Draft.{Draft}
use Rattle.model_json.specs.declared.draft.Drafts.{Drafts}
use Rattle.model_json.specs.declared.model.Model.{Model}
use Rattle.model_json.specs.declared.model.ModelDoc.{ModelDoc}
use Rattle.model_fields.specs.declared.fault.ModelCause.TheVariants.{NotYet}
use Rattle.model_fields.specs.declared.fault.ModelFault.{ModelFault}
use Rattle.model_fields.specs.declared.fault.ModelFault.TheVariants.{NotJson}
use Rattle.model_fields.specs.Reading.{◌>>=◌, bad, in_turn, field, optional, under}
use Rattle.model_fields.specs.Kinds.{a_list}
use Rattle.model_fields.specs.Rows.{member_key, keyed}
use Rattle.model_json.specs.Schemas.{first_walk}

-- ---- the document

abbrev pub json : Option Data → Result Data ModelFault
json None = Err NotJson
json (Some d) = Ok d

-- the JSON document of at most 127 levels that the bytes are
abbrev pub document : List ℕ → Result Data ModelFault
document bytes = json (if is_utf8 bytes then read bytes else None)

-- ---- the second walk: the primary keys of tables that are read from files

abbrev pub under_operand : {A : Type 0} → ℕ → ℕ → Result A ModelFault → Result A ModelFault
under_operand schema_at table_at r = under (codes "schemas") (under (decimal schema_at) (under (codes "tables") (under (decimal table_at) (under (codes "operand") r))))

abbrev pub with_columns : TableDef → List ColumnDef → List ℕ → TableDef
with_columns t cs ks = record { schema = t.schema; name = t.name; columns = keyed ks cs; adapter = t.adapter; file = t.file; max_rows = t.max_rows; primary_key = ks }

-- the key of the table's own operand
abbrev pub file_key_at : Draft → List ColumnDef → Result (List ℕ) ModelFault
file_key_at t cs = under_operand t.schema_at t.table_at (member_key cs t.key)

-- the table with the columns of its file's header
abbrev pub file_table : Draft → List ColumnDef → Result TableDef ModelFault
file_table t cs = file_key_at t cs >>= λ ks. Ok (with_columns t.table cs ks)

abbrev pub table_with : Draft → List ColumnDef → Option (List (List Value)) → Result TableDef ModelFault
table_with t cs None = file_table t cs
table_with t cs (Some rs) = Ok t.table

abbrev pub header_at : List (Option (List ColumnDef)) → ℕ → List ColumnDef
header_at headers n = unwrap_or (option_and_then (λ header. header) (slice_get headers n)) []

-- the table of this number, whole
abbrev pub whole_table : List (Option (List ColumnDef)) → ℕ → Draft → Result TableDef ModelFault
whole_table headers n t = table_with t (header_at headers n) t.rows

abbrev pub tables_after : List (Option (List ColumnDef)) → List TableDef → List Draft → Result (List TableDef) ModelFault
tables_after headers done [] = Ok done
tables_after headers done (t ∷ ts) = whole_table headers (length done) t >>= λ whole. tables_after headers (done ++ whole ∷ []) ts

abbrev pub second_walk : List (Option (List ColumnDef)) → List Draft → Result (List TableDef) ModelFault
second_walk headers ts = tables_after headers [] ts

-- ---- the third walk: lattices, of which there are none yet

abbrev pub no_lattices : Items → Result ⊤ ModelFault
no_lattices no_items = Ok tt
no_lattices (item d ds) = bad NotYet

abbrev pub lattice_list : Data → Result ⊤ ModelFault
lattice_list d = a_list d >>= no_lattices

abbrev pub schema_lattices : Data → Result ⊤ ModelFault
schema_lattices schema = optional (codes "lattices") tt lattice_list schema

abbrev pub lattices : ℕ → ⊤ → Data → Result ⊤ ModelFault
lattices number nothing schema = schema_lattices schema

abbrev pub lattices_of : Data → Result ⊤ ModelFault
lattices_of schemas = a_list schemas >>= in_turn lattices 0 tt

abbrev pub third_walk : Data → Result ⊤ ModelFault
third_walk d = field (codes "schemas") lattices_of d

-- ---- the whole

abbrev pub inline_rows : Draft → Option (List (List Value))
inline_rows t = t.rows

abbrev pub model : Option (List ℕ) → List TableDef → List Draft → Model
model default tables drafts = record { schema = record { default_schema = default; tables = tables }; inline = map inline_rows drafts }

abbrev pub resolved : Data → List (Option (List ColumnDef)) → Drafts → Result Model ModelFault
resolved d headers drafts = do
  tables ← second_walk headers drafts.tables
  _ ← third_walk d
  Ok (model drafts.default_schema tables drafts.tables)

-- the model of a document, given the headers of its tables' files in the order of the tables
abbrev pub resolve : Data → List (Option (List ColumnDef)) → Result Model ModelFault
resolve d headers = first_walk d >>= resolved d headers

abbrev pub if_file : List ℕ → Option (List (List Value)) → Option (List ℕ)
if_file name None = Some name
if_file name (Some rs) = None

abbrev pub file_name : Draft → Option (List ℕ)
file_name t = if_file t.table.file t.rows

-- the names of the files that the tables are read from
abbrev pub files : Drafts → List (Option (List ℕ))
files drafts = map file_name drafts.tables

abbrev pub FilesAre : List (Option (List ℕ)) → Result Drafts ModelFault → Type 0
FilesAre names (Ok drafts) = names ≡ files drafts
FilesAre names (Err e) = ⊥

-- the document that the bytes are, where the first walk finds no fault
abbrev pub checked : Data → Result Data ModelFault
checked d = first_walk d >>= λ drafts. Ok d

-- the drafts are what the first walk over the document gives
pub record IsWalked (doc : ModelDoc) : Type 0 where
  pub drafts : first_walk (view doc.json) ≡ Ok doc.drafts
  pub few : length doc.drafts.tables ≤ TABLE_LIMIT

-- the columns of a header, exactly where there is a file's name
abbrev pub IsHeaderOf : Option (List ℕ) → Option (List ColumnDef) → Type 0
IsHeaderOf None None = ⊤
IsHeaderOf None (Some cs) = ⊥
IsHeaderOf (Some name) None = ⊥
IsHeaderOf (Some name) (Some cs) = IsHeader cs

-- as many headers as names of files, each of the file in its place
abbrev pub AreHeadersOf : List (Option (List ℕ)) → List (Option (List ColumnDef)) → Type 0
AreHeadersOf names headers = AllZip IsHeaderOf names headers

abbrev pub file_by : AdapterKind → List ℕ → Option (List ℕ)
file_by Csv name = Some name
file_by Mem name = None

-- the name of the file that a table is read from
abbrev pub file_of : TableDef → Option (List ℕ)
file_of t = file_by t.adapter t.file

-- rows exactly where the table is no table of a file, and they fill it
abbrev pub IsInlineOf : TableDef → Option (List (List Value)) → Type 0
IsInlineOf t None = t.adapter ≡ Csv
IsInlineOf t (Some rs) = (t.adapter ≡ Mem) × IsFilledBy t rs

-- as many places as tables
abbrev pub AreInlineFilled : List TableDef → List (Option (List (List Value))) → Type 0
AreInlineFilled tables inline = AllZip IsInlineOf tables inline

-- no header has more than 32 columns
abbrev pub AreShort : List (Option (List ColumnDef)) → Type 0
AreShort headers = All (λ header. IfSome header (λ cs. length cs ≤ COLUMN_LIMIT)) headers

abbrev pub read_model : List ℕ → Result Data ModelFault
read_model bytes = document bytes >>= checked

-- the model that the bytes mean
abbrev pub model_of : List ℕ → List (Option (List ColumnDef)) → Result Model ModelFault
model_of bytes headers = document bytes >>= λ d. resolve d headers
