-- How far the headers of the tables' files have come.
use Rattle.std.proofs.Common.{◌≡◌, ◌<◌, ℕ, ◌+◌, ◌-◌, min, List, [], ◌∷◌, ◌++◌, length, Option, Some, None, Result, Ok, Err, refl, sym, ap, ◌∙◌, append-nil, append_assoc, inl, inr, drop, get_or}
use Rattle.std.specs.Prelude.{encode_utf8_all}
use Rattle.std.proofs.lemmas.List.{drop_more}
use Rattle.cal_outside.specs.Store.{StoreState, IsLater}
use Rattle.cal_schema.specs.declared.column.ColumnDef.{ColumnDef}
use Rattle.cal_value.specs.declared.limits.TheConstants.{FILE_LIMIT}
use Rattle.model_json.specs.declared.source.TableSource.{TableSource}
use Rattle.serde_json.specs.Data.{Data}
use Rattle.cal_start.specs.Ends.{AreRead, IsNext, EndCause}
use Rattle.cal_start.specs.Next.{Headers, Next, wants, ◌>>=◌, header_for, left_after, files_after, headers_after, headers_in, after_headers, next_in, wants_file, source_name, told_header}
use Rattle.cal_start.specs.Parts.{OneRead, FileSays, HeaderSays, HeadersSay}
use Rattle.cal_start.specs.declared.fault.StartFault.{StartFault}
use Rattle.cal_start.specs.declared.fault.StartFault.TheVariants.{NotJson, BadModel, TooBig, Table, ReadFault, NoMemory}
use Rattle.cal_start.specs.declared.fault.TableFault.TheVariants as table
use Rattle.cal_start.specs.declared.fault.TableName.{TableName}
use Rattle.cal_start.specs.declared.files.FileRead.{FileRead}
use Rattle.cal_start.specs.declared.header.NextHeader.{NextHeader}
use Rattle.cal_start.proofs.ReadLemmas.{EachAfter-push, rose_for_later, told_for_later, longer_for_later}

-- the headers from a table on, of which this is the file
abbrev pub from_table : TableName → Option (List ℕ) → List TableSource → Headers → ℕ → List FileRead → Result Headers Next
from_table t file rest headers left more =
    header_for t file left more >>= λ header. headers_after rest (headers ++ header ∷ []) (left_after file left more) (files_after file more)

-- what holds after some tables, where `from` is what is said of the files that come
pub record SoFar (a : StoreState) (d : Data) (old files : List FileRead) (from : List FileRead → Result Headers Next) : Type 0 where
  pub tables : List FileRead
  pub kept : files ≡ old ++ tables
  pub read : AreRead a (next_in d) tables
  pub walked : (more : List FileRead) → headers_in d (tables ++ more) ≡ from more

-- the next file
next_at : (d : Data) (tables : List FileRead) (next : Next) → headers_in d (tables ++ []) ≡ Err next → next_in d tables ≡ next
next_at d tables next is = ap (λ r. after_headers d r tables) (sym (ap (headers_in d) (append-nil tables)) ∙ is)

next_is : (a : StoreState) (d : Data) (old files new : List FileRead) (t : TableName) (file : List ℕ) (rest : List TableSource) (headers : Headers) (left : ℕ) (P : List ℕ → Type 0)
    (s : SoFar a d old files (λ more. from_table t (Some file) rest headers left more)) (o : OneRead a file left files new P)
    → IsNext a (next_in d s.tables) (record { name = o.name; bytes = o.bytes })
next_is a d old files new t file rest headers left P s o = record {
  limit = min FILE_LIMIT left;
  longer = Table t (table.TooBig (min FILE_LIMIT left));
  is_text = o.is_text;
  wanted = next_at d s.tables (wants_file t file left) (s.walked []) ∙ ap (λ name. wants name (min FILE_LIMIT left) (Table t (table.TooBig (min FILE_LIMIT left)))) (sym o.named);
  short = o.short;
  is_told = o.is_told;
}

-- one more file
abbrev with_one : (a : StoreState) (d : Data) (old files new : List FileRead) (t : TableName) (file : List ℕ) (rest : List TableSource) (headers : Headers) (left : ℕ) (P : List ℕ → Type 0)
    → SoFar a d old files (λ more. from_table t (Some file) rest headers left more) → (o : OneRead a file left files new P)
    → SoFar a d old new (λ more. from_table t (Some file) rest headers left (record { name = o.name; bytes = o.bytes } ∷ more))
with_one a d old files new t file rest headers left P s o =
    let one : FileRead = record { name = o.name; bytes = o.bytes } in
    record {
      tables = s.tables ++ one ∷ [];
      kept = o.kept ∙ ap (λ fs. fs ++ one ∷ []) s.kept ∙ append_assoc old s.tables (one ∷ []);
      read = EachAfter-push _ [] s.tables one s.read (next_is a d old files new t file rest headers left P s o);
      walked = λ more. ap (headers_in d) (append_assoc s.tables (one ∷ []) more) ∙ s.walked (one ∷ more);
    }

-- the same files, said otherwise
abbrev said : (a : StoreState) (d : Data) (old files new : List FileRead) (from from' : List FileRead → Result Headers Next)
    → new ≡ files → ((more : List FileRead) → from more ≡ from' more) → SoFar a d old files from → SoFar a d old new from'
said a d old files new from from' same is s = record { tables = s.tables; kept = same ∙ s.kept; read = s.read; walked = λ more. s.walked more ∙ is more }

and_then : (rest : List TableSource) (headers : Headers) (left left' : ℕ) (more : List FileRead) (r : Result (Option (List ColumnDef)) Next) (header : Option (List ColumnDef))
    → r ≡ Ok header → left ≡ left'
    → (r >>= λ h. headers_after rest (headers ++ h ∷ []) left more) ≡ headers_after rest (headers ++ header ∷ []) left' more
and_then rest headers left left' more r header is same =
    ap (λ r. r >>= λ h. headers_after rest (headers ++ h ∷ []) left more) is ∙ ap (λ n. headers_after rest (headers ++ header ∷ []) n more) same

-- one more table
pub so_far_more : (a c : StoreState) (d : Data) (old files new : List FileRead) (t : TableName) (file : Option (List ℕ)) (rest : List TableSource) (headers : Headers) (left : ℕ) (next : NextHeader)
    → SoFar a d old files (λ more. from_table t file rest headers left more)
    → HeaderSays a c t file left files new (Ok next)
    → SoFar a d old new (λ more. headers_after rest (headers ++ next.header ∷ []) next.left more)
so_far_more a c d old files new t None rest headers left next s o =
    said a d old files new _ _ o.0 (λ more. ap (λ h. headers_after rest (headers ++ h ∷ []) left more) (sym o.1) ∙ ap (λ n. headers_after rest (headers ++ next.header ∷ []) n more) (sym o.2)) s
so_far_more a c d old files new t (Some file) rest headers left next s o =
    said a d old new new _ _ refl (λ more. and_then rest headers _ _ more _ next.header o.has.0 (sym o.has.1)) (with_one a d old files new t file rest headers left _ s o)

stopped : (a c : StoreState) (d : Data) (old files : List FileRead) (from : List FileRead → Result Headers Next) (fault : StartFault)
    → (s : SoFar a d old files from) → EndCause a c (next_in d s.tables) (Err fault) → HeadersSay a c d old files (Err fault)
stopped a c d old files from fault s cause = record { tables = s.tables; kept = s.kept; read = s.read; cause = cause }

-- want of memory at any place
pub no_memory : (a c : StoreState) (d : Data) (old files : List FileRead) (from : List FileRead → Result Headers Next)
    → SoFar a d old files from → HeadersSay a c d old files (Err NoMemory)
no_memory a c d old files from s = stopped a c d old files from NoMemory s tt

-- an end at a table
pub headers_stopped : (a c : StoreState) (d : Data) (old files new : List FileRead) (t : TableName) (file : Option (List ℕ)) (rest : List TableSource) (headers : Headers) (left : ℕ) (fault : StartFault)
    → SoFar a d old files (λ more. from_table t file rest headers left more)
    → HeaderSays a c t file left files new (Err fault)
    → HeadersSay a c d old new (Err fault)
headers_stopped a c d old files new t None rest headers left NoMemory s o =
    no_memory a c d old new _ (said a d old files new _ _ o (λ more. refl) s)
headers_stopped a c d old files new t None rest headers left NotJson s o = absurd o
headers_stopped a c d old files new t None rest headers left (BadModel path cause) s o = absurd o
headers_stopped a c d old files new t None rest headers left (Table t' fault) s o = absurd o
headers_stopped a c d old files new t None rest headers left (TooBig limit) s o = absurd o
headers_stopped a c d old files new t None rest headers left ReadFault s o = absurd o
headers_stopped a c d old files new t (Some file) rest headers left NotJson s o = absurd o
headers_stopped a c d old files new t (Some file) rest headers left (BadModel path cause) s o = absurd o
headers_stopped a c d old files new t (Some file) rest headers left (TooBig limit) s o = absurd o
headers_stopped a c d old files new t (Some file) rest headers left (Table t' (table.Csv fault)) s o =
    let one = with_one a d old files new t file rest headers left _ s o.2 in
    stopped a c d old new _ (Table t' (table.Csv fault)) one (
      next_at d one.tables _ (one.walked [] ∙ ap (λ r. told_header t r >>= λ h. headers_after rest (headers ++ h ∷ []) (left - length o.2.bytes) []) o.2.has)
          ∙ ap (λ x. Next.stops (Table x (table.Csv fault))) (sym o.0),
      o.1,
    )
headers_stopped a c d old files new t (Some file) rest headers left (Table t' (table.TooBig limit)) s o =
    stopped a c d old new _ (Table t' (table.TooBig limit)) (said a d old files new _ _ o.1 (λ more. refl) s)
    (record {
      name = encode_utf8_all file;
      limit = limit;
      wanted = rw (o.0, o.2) (next_at d s.tables (wants_file t file left) (s.walked []));
      longer = o.3;
    })
headers_stopped a c d old files new t (Some file) rest headers left ReadFault s o =
    stopped a c d old new _ ReadFault (said a d old files new _ _ o.0 (λ more. refl) s)
    (record {
      name = encode_utf8_all file;
      limit = min FILE_LIMIT left;
      longer = Table t (table.TooBig (min FILE_LIMIT left));
      wanted = next_at d s.tables (wants_file t file left) (s.walked []);
      rose = o.1;
    })
headers_stopped a c d old files new t (Some file) rest headers left NoMemory s (inl same) =
    no_memory a c d old new _ (said a d old files new _ _ same (λ more. refl) s)
headers_stopped a c d old files new t (Some file) rest headers left NoMemory s (inr o) =
    no_memory a c d old new _ (with_one a d old files new t file rest headers left _ s o)

-- all headers
pub headers_all : (a c : StoreState) (d : Data) (old files : List FileRead) (rest : List TableSource) (headers : Headers) (left : ℕ)
    → rest ≡ [] → SoFar a d old files (λ more. headers_after rest headers left more) → HeadersSay a c d old files (Ok headers)
headers_all a c d old files rest headers left none s = record {
  tables = s.tables;
  kept = s.kept;
  read = s.read;
  cause = sym (ap (headers_in d) (append-nil s.tables)) ∙ s.walked [] ∙ ap (λ r. headers_after r headers left []) none;
}

-- the table of this number comes first of those that are left
pub at_source : (a : StoreState) (d : Data) (old files : List FileRead) (ts : List TableSource) (i : ℕ) (t : TableSource) (headers : Headers) (left : ℕ)
    → i < length ts → t ≡ get_or ts i t
    → SoFar a d old files (λ more. headers_after (drop i ts) headers left more)
    → SoFar a d old files (λ more. from_table (source_name t) t.file (drop (i + 1) ts) headers left more)
at_source a d old files ts i t headers left lt is s =
    said a d old files files _ _ refl (λ more. ap (λ r. headers_after r headers left more) (drop_more ts i t lt ∙ ap (λ x. x ∷ drop (i + 1) ts) (sym is))) s

-- what a table's header says of the store then says so of it earlier
one_for_later : (a b : StoreState) (file : List ℕ) (left : ℕ) (old new : List FileRead) (P : List ℕ → Type 0) → IsLater a b → OneRead b file left old new P → OneRead a file left old new P
one_for_later a b file left old new P p o = record {
  name = o.name;
  bytes = o.bytes;
  is_text = o.is_text;
  kept = o.kept;
  named = o.named;
  short = o.short;
  is_told = told_for_later a b (encode_utf8_all o.name) o.bytes p o.is_told;
  has = o.has;
}

file_for_later : (a b c : StoreState) (t : TableName) (file : List ℕ) (left : ℕ) (old new : List FileRead) (r : Result NextHeader StartFault)
    → IsLater a b → FileSays b c t file left old new r → FileSays a c t file left old new r
file_for_later a b c t file left old new (Ok next) p o = one_for_later a b file left old new _ p o
file_for_later a b c t file left old new (Err (Table t' (table.Csv fault))) p o = (o.0, o.1, one_for_later a b file left old new _ p o.2)
file_for_later a b c t file left old new (Err (Table t' (table.TooBig limit))) p o = (o.0, o.1, o.2, longer_for_later a b (encode_utf8_all file) limit p o.3)
file_for_later a b c t file left old new (Err ReadFault) p o = (o.0, rose_for_later a b c (encode_utf8_all file) p o.1)
file_for_later a b c t file left old new (Err NoMemory) p (inl same) = inl same
file_for_later a b c t file left old new (Err NoMemory) p (inr o) = inr (one_for_later a b file left old new _ p o)
file_for_later a b c t file left old new (Err NotJson) p o = absurd o
file_for_later a b c t file left old new (Err (BadModel path cause)) p o = absurd o
file_for_later a b c t file left old new (Err (TooBig limit)) p o = absurd o

header_for_later : (a b c : StoreState) (t : TableName) (file : Option (List ℕ)) (left : ℕ) (old new : List FileRead) (r : Result NextHeader StartFault)
    → IsLater a b → HeaderSays b c t file left old new r → HeaderSays a c t file left old new r
header_for_later a b c t None left old new r p o = o
header_for_later a b c t (Some file) left old new r p o = file_for_later a b c t file left old new r p o

-- one more table
pub more_at : (a b c : StoreState) (d : Data) (old files new : List FileRead) (ts : List TableSource) (t : TableSource) (i : ℕ) (headers : Headers) (left : ℕ) (next : NextHeader)
    → i < length ts → t ≡ get_or ts i t → IsLater a b
    → SoFar a d old files (λ more. headers_after (drop i ts) headers left more)
    → HeaderSays b c (source_name t) t.file left files new (Ok next)
    → SoFar a d old new (λ more. headers_after (drop (i + 1) ts) (headers ++ next.header ∷ []) next.left more)
more_at a b c d old files new ts t i headers left next lt is p s o =
    so_far_more a c d old files new (source_name t) t.file (drop (i + 1) ts) headers left next (at_source a d old files ts i t headers left lt is s)
    (header_for_later a b c (source_name t) t.file left files new (Ok next) p o)

-- an end at a table, likewise
pub stopped_at : (a b c : StoreState) (d : Data) (old files new : List FileRead) (ts : List TableSource) (t : TableSource) (i : ℕ) (headers : Headers) (left : ℕ) (fault : StartFault)
    → i < length ts → t ≡ get_or ts i t → IsLater a b
    → SoFar a d old files (λ more. headers_after (drop i ts) headers left more)
    → HeaderSays b c (source_name t) t.file left files new (Err fault)
    → HeadersSay a c d old new (Err fault)
stopped_at a b c d old files new ts t i headers left fault lt is p s o =
    headers_stopped a c d old files new (source_name t) t.file (drop (i + 1) ts) headers left fault (at_source a d old files ts i t headers left lt is s)
    (header_for_later a b c (source_name t) t.file left files new (Err fault) p o)
