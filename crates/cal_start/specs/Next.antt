-- What a run does after the files that it has read.
use Rattle.std.specs.Prelude.{ℕ, ◌-◌, min, List, [], ◌∷◌, ◌++◌, length, Option, Some, None, Result, Ok, Err, encode_utf8_all}
use Rattle.cal_schema.specs.declared.column.ColumnDef.{ColumnDef}
use Rattle.cal_schema.specs.declared.database.Db.{Db}
use Rattle.cal_schema.specs.declared.schema.Schema.{Schema}
use Rattle.cal_schema.specs.declared.table.TableDef.{TableDef}
use Rattle.cal_value.specs.declared.limits.TheConstants.{FILE_LIMIT, FILES_LIMIT, MODEL_LIMIT}
use Rattle.cal_value.specs.declared.value.Value.{Value}
use Rattle.csv_tables.specs.Header.{header_of}
use Rattle.csv_tables.specs.Table.{table_of}
use Rattle.csv_tables.specs.declared.fault.CsvFault.{CsvFault}
use Rattle.model_json.specs.ModelOf.{read_model, resolve}
use Rattle.model_json.specs.Sources.{sources_of}
use Rattle.model_fields.specs.declared.fault.ModelFault.{ModelFault}
use Rattle.model_fields.specs.declared.fault.ModelFault.TheVariants as model
use Rattle.model_json.specs.declared.model.Model.{Model}
use Rattle.model_json.specs.declared.source.TableSource.{TableSource}
use Rattle.serde_json.specs.Data.{Data}
use Rattle.cal_start.specs.declared.files.FileRead.{FileRead}
use Rattle.cal_start.specs.declared.fault.StartFault.{StartFault}
use Rattle.cal_start.specs.declared.fault.StartFault.TheVariants.{NotJson, BadModel, Table, TooBig, NoMemory}
use Rattle.cal_start.specs.declared.fault.TableFault.TheVariants as table
use Rattle.cal_start.specs.declared.fault.TableName.{TableName}
use Rattle.cal_start.specs.declared.run.Started.{Started}

-- for each table the columns of its file's header, where it has a file
abbrev pub Headers : Type 0
Headers = List (Option (List ColumnDef))

abbrev pub Rows : Type 0
Rows = List (List Value)

-- It reads the file of this name, which is the fault where it has more bytes than the number; it stops; it has its tables.
pub data Next : Type 0 where
  wants : List ℕ → ℕ → StartFault → Next
  stops : StartFault → Next
  done : Schema → Db → Next

-- the first fault is told
infixl 10 ◌>>=◌
abbrev pub ◌>>=◌ : {A B E : Type 0} → Result A E → (A → Result B E) → Result B E
(Ok x) >>= f = f x
(Err e) >>= f = Err e

-- A table that is read from a file is looked at once its file was read, so there is a first one then.
abbrev pub first_bytes : List FileRead → List ℕ
first_bytes [] = []
first_bytes (file ∷ files) = file.bytes

abbrev pub later_files : List FileRead → List FileRead
later_files [] = []
later_files (file ∷ files) = files

-- ---- the headers of the tables' files, or what is done before they are all read

abbrev pub source_name : TableSource → TableName
source_name t = record { schema = t.schema; name = t.name }

-- the file of a table, where so many bytes are left for the files of tables
abbrev pub wants_file : TableName → List ℕ → ℕ → Next
wants_file t file left = wants (encode_utf8_all file) (min FILE_LIMIT left) (Table t (table.TooBig (min FILE_LIMIT left)))

abbrev pub told_header : TableName → Result (List ColumnDef) CsvFault → Result (Option (List ColumnDef)) Next
told_header t (Ok columns) = Ok (Some columns)
told_header t (Err fault) = Err (stops (Table t (table.Csv fault)))

-- the header of a table that has a file, which is the first of these
abbrev pub header_for : TableName → Option (List ℕ) → ℕ → List FileRead → Result (Option (List ColumnDef)) Next
header_for t None left files = Ok None
header_for t (Some file) left [] = Err (wants_file t file left)
header_for t (Some file) left (read ∷ files) = told_header t (header_of read.bytes)

abbrev pub left_after : Option (List ℕ) → ℕ → List FileRead → ℕ
left_after None left files = left
left_after (Some file) left files = left - length (first_bytes files)

abbrev pub files_after : Option (List ℕ) → List FileRead → List FileRead
files_after None files = files
files_after (Some file) files = later_files files

-- the headers of these tables, after the earlier ones
abbrev pub headers_after : List TableSource → Headers → ℕ → List FileRead → Result Headers Next
headers_after [] earlier left files = Ok earlier
headers_after (t ∷ ts) earlier left files =
    header_for (source_name t) t.file left files
    >>= λ header. headers_after ts (earlier ++ header ∷ []) (left_after t.file left files) (files_after t.file files)

abbrev pub headers_in : Data → List FileRead → Result Headers Next
headers_in d files = headers_after (sources_of d) [] FILES_LIMIT files

-- ---- the rows of the tables

abbrev pub table_name : TableDef → TableName
table_name t = record { schema = t.schema; name = t.name }

abbrev pub told_rows : TableName → Result Rows CsvFault → Result Rows StartFault
told_rows t (Ok rows) = Ok rows
told_rows t (Err fault) = Err (Table t (table.Csv fault))

-- the rows that stand in the model, or those of the table's file, which is the first of these
abbrev pub rows_for : TableDef → Option Rows → List FileRead → Result Rows StartFault
rows_for t (Some rows) files = Ok rows
rows_for t None files = told_rows (table_name t) (table_of (first_bytes files) t)

abbrev pub files_for : Option Rows → List FileRead → List FileRead
files_for (Some rows) files = files
files_for None files = later_files files

-- the rows of these tables, after the earlier ones
abbrev pub rows_after : List TableDef → List (Option Rows) → List Rows → List FileRead → Result (List Rows) StartFault
rows_after [] inline earlier files = Ok earlier
rows_after (t ∷ ts) [] earlier files = Ok earlier
rows_after (t ∷ ts) (stored ∷ inline) earlier files =
    rows_for t stored files >>= λ rows. rows_after ts inline (earlier ++ rows ∷ []) (files_for stored files)

abbrev pub rows_in : Model → List FileRead → Result (List Rows) StartFault
rows_in m files = rows_after m.schema.tables m.inline [] files

-- ---- the whole

abbrev pub model_stop : ModelFault → StartFault
model_stop model.NotJson = NotJson
model_stop (model.BadModel path cause) = BadModel path cause
model_stop model.NoMemory = NoMemory

abbrev pub after_rows : Schema → Result (List Rows) StartFault → Next
after_rows schema (Ok tables) = done schema (record { tables = tables })
after_rows schema (Err fault) = stops fault

abbrev pub after_names : Result Model ModelFault → List FileRead → Next
after_names (Ok m) files = after_rows m.schema (rows_in m files)
after_names (Err fault) files = stops (model_stop fault)

abbrev pub after_headers : Data → Result Headers Next → List FileRead → Next
after_headers d (Ok headers) files = after_names (resolve d headers) files
after_headers d (Err next) files = next

-- what is done after the table files that follow the model
abbrev pub next_in : Data → List FileRead → Next
next_in d files = after_headers d (headers_in d files) files

abbrev pub after_model : Result Data ModelFault → List FileRead → Next
after_model (Ok d) files = next_in d files
after_model (Err fault) files = stops (model_stop fault)

-- The model; the file of each table that has one, in the order of the tables, with its header; names and keys; the rows of
-- each table.
abbrev pub next_of : List ℕ → List FileRead → Next
next_of name [] = wants (encode_utf8_all name) MODEL_LIMIT (TooBig MODEL_LIMIT)
next_of name (m ∷ files) = after_model (read_model m.bytes) files

abbrev pub given : Next → Option (Result Started StartFault)
given (wants name limit longer) = None
given (stops fault) = Some (Err fault)
given (done schema db) = Some (Ok (record { schema = schema; db = db }))

-- the tables that the files give, or their first fault, where they are all of them
abbrev pub initial_of : List ℕ → List FileRead → Option (Result Started StartFault)
initial_of name files = given (next_of name files)
