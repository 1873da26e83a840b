-- Words of private contracts: what the parts of a start do.
use Rattle.std.specs.Prelude.{◌≡◌, ◌≢◌, ◌⊎◌, ◌<◌, ◌≤◌, ℕ, ◌-◌, min, List, [], ◌∷◌, ◌++◌, length, map, Option, Some, None, IfSome, IsSomeAnd, encode_utf8_all, Result, Ok, Err, ⊤}
use Rattle.std.specs.Str.{chars}
use Rattle.cal_outside.specs.Store.{StoreState, RoseFor}
use Rattle.csv_tables.specs.Header.{header_of}
use Rattle.csv_tables.specs.declared.fault.CsvFault.{CsvFault}
use Rattle.csv_tables.specs.declared.fault.CsvFault.TheVariants as csv
use Rattle.model_json.specs.ModelOf.{IsWalked, read_model}
use Rattle.model_json.specs.Sources.{sources_of}
use Rattle.model_json.specs.declared.model.ModelDoc.{ModelDoc}
use Rattle.serde_json.specs.Data.{Data}
use Rattle.serde_json.specs.View.{view}
use Rattle.cal_value.specs.declared.limits.TheConstants.{FILE_LIMIT}
use Rattle.cal_start.specs.Ends.{AreRead, EndCause}
use Rattle.cal_start.specs.Next.{Headers, told_header, headers_in, next_in, next_of}
use Rattle.cal_start.specs.declared.files.FileRead.{FileRead}
use Rattle.cal_start.specs.declared.fault.StartFault.{StartFault}
use Rattle.cal_start.specs.declared.fault.StartFault.TheVariants.{Table, ReadFault, NoMemory}
use Rattle.cal_start.specs.declared.fault.TableFault.TheVariants as table
use Rattle.cal_start.specs.declared.fault.TableName.{TableName}
use Rattle.cal_start.specs.declared.header.NextHeader.{NextHeader}
use Rattle.cal_start.specs.declared.run.Started.{Started}

-- want of memory has no table
abbrev pub csv_stop : TableName → CsvFault → StartFault
csv_stop t csv.NoMemory = NoMemory
csv_stop t (csv.CsvBad number column cause) = Table t (table.Csv (csv.CsvBad number column cause))
csv_stop t (csv.TableFull limit) = Table t (table.Csv (csv.TableFull limit))

-- ---- the header of one table

-- One more file was read, and it has P.
pub record OneRead (store : StoreState) (file : List ℕ) (left : ℕ) (old new : List FileRead) (P : List ℕ → Type 0) : Type 0 where
  pub name : List ℕ
  pub bytes : List ℕ
  pub kept : new ≡ old ++ record { name = name; bytes = bytes } ∷ []
  pub is_text : chars (encode_utf8_all name) ≡ name
  pub named : encode_utf8_all name ≡ encode_utf8_all file
  pub short : length bytes ≤ min FILE_LIMIT left
  pub is_told : IfSome store.files (λ file_of. file_of (encode_utf8_all name) ≡ Some bytes)
  pub has : P bytes

abbrev pub FileSays : StoreState → StoreState → TableName → List ℕ → ℕ → List FileRead → List FileRead → Result NextHeader StartFault → Type 0
FileSays store store' t file left old new (Ok next) =
    OneRead store file left old new (λ bytes. (told_header t (header_of bytes) ≡ Ok next.header) × (next.left ≡ left - length bytes))
FileSays store store' t file left old new (Err (Table t' (table.Csv fault))) =
    (t' ≡ t) × (fault ≢ csv.NoMemory) × OneRead store file left old new (λ bytes. header_of bytes ≡ Err fault)
FileSays store store' t file left old new (Err (Table t' (table.TooBig limit))) =
    (t' ≡ t) × (new ≡ old) × (limit ≡ min FILE_LIMIT left)
    × IfSome store.files (λ file_of. IsSomeAnd (file_of (encode_utf8_all file)) (λ whole. limit < length whole))
FileSays store store' t file left old new (Err ReadFault) = (new ≡ old) × RoseFor store store' (encode_utf8_all file)
FileSays store store' t file left old new (Err NoMemory) = (new ≡ old) ⊎ OneRead store file left old new (λ bytes. ⊤)
FileSays store store' t file left old new (Err _) = ⊥

-- a table without a file has no header
abbrev pub InlineSays : ℕ → List FileRead → List FileRead → Result NextHeader StartFault → Type 0
InlineSays left old new (Ok next) = (new ≡ old) × (next.header ≡ None) × (next.left ≡ left)
InlineSays left old new (Err NoMemory) = new ≡ old
InlineSays left old new (Err _) = ⊥

abbrev pub HeaderSays : StoreState → StoreState → TableName → Option (List ℕ) → ℕ → List FileRead → List FileRead → Result NextHeader StartFault → Type 0
HeaderSays store store' t None left old new result = InlineSays left old new result
HeaderSays store store' t (Some file) left old new result = FileSays store store' t file left old new result

-- ---- the headers of all tables

-- the names of the files of tables
abbrev pub file_names : Data → List (Option (List ℕ))
file_names d = map (λ t. t.file) (sources_of d)

abbrev pub HeadersCause : StoreState → StoreState → Data → List FileRead → Result Headers StartFault → Type 0
HeadersCause store store' d tables (Ok headers) = headers_in d tables ≡ Ok headers
HeadersCause store store' d tables (Err fault) = EndCause store store' (next_in d tables) (Err fault)

-- The files that were read are those of the tables, in order.
pub record HeadersSay (store store' : StoreState) (d : Data) (old new : List FileRead) (result : Result Headers StartFault) : Type 0 where
  pub tables : List FileRead
  pub kept : new ≡ old ++ tables
  pub read : AreRead store (next_in d) tables
  pub cause : HeadersCause store store' d tables result

-- ---- the rows

-- the answer is what is meant, or want of memory
abbrev pub RowsSay : {X : Type 0} → Result X StartFault → Result X StartFault → Type 0
RowsSay meant (Ok rows) = meant ≡ Ok rows
RowsSay meant (Err (Table t (table.Csv fault))) = (meant ≡ Err (Table t (table.Csv fault))) × (fault ≢ csv.NoMemory)
RowsSay meant (Err NoMemory) = ⊤
RowsSay meant (Err _) = ⊥

-- ---- the tables, and the model

-- what a start with a document does after the model
pub record TablesSay (store store' : StoreState) (d : Data) (old new : List FileRead) (result : Result Started StartFault) : Type 0 where
  pub tables : List FileRead
  pub kept : new ≡ old ++ tables
  pub read : AreRead store (next_in d) tables
  pub cause : EndCause store store' (next_in d tables) result

-- the model alone was read
pub record ModelRead (store : StoreState) (name : List ℕ) (new : List FileRead) (doc : ModelDoc) : Type 0 where
  pub bytes : List ℕ
  pub kept : new ≡ record { name = name; bytes = bytes } ∷ []
  pub read : AreRead store (next_of name) new
  pub is_model : read_model bytes ≡ Ok (view doc.json)
  pub walked : IsWalked doc

-- what was read, and why it ended
pub record Ended (store store' : StoreState) (name : List ℕ) (new : List FileRead) (result : Result Started StartFault) : Type 0 where
  pub read : AreRead store (next_of name) new
  pub cause : EndCause store store' (next_of name new) result

abbrev pub ModelSays : StoreState → StoreState → List ℕ → List FileRead → Result ModelDoc StartFault → Type 0
ModelSays store store' name new (Ok doc) = ModelRead store name new doc
ModelSays store store' name new (Err fault) = Ended store store' name new (Err fault)
