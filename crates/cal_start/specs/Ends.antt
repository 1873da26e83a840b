-- The files that a run reads, and the cause of each end.
use Rattle.std.specs.Prelude.{◌≡◌, ◌≢◌, ◌<◌, ◌≤◌, ℕ, ◌+◌, List, [], ◌∷◌, ◌++◌, length, Some, IfSome, IsSomeAnd, Result, Ok, Err, encode_utf8_all, ⊤}
use Rattle.std.specs.Str.{chars}
use Rattle.cal_outside.specs.Store.{StoreState, RoseFor}
use Rattle.csv_tables.specs.declared.fault.CsvFault.TheVariants as csv
use Rattle.cal_start.specs.Next.{Next, wants, stops, done}
use Rattle.cal_start.specs.declared.files.FileRead.{FileRead}
use Rattle.cal_start.specs.declared.fault.StartFault.{StartFault}
use Rattle.cal_start.specs.declared.fault.StartFault.TheVariants.{NotJson, BadModel, Table, TooBig, ReadFault, NoMemory}
use Rattle.cal_start.specs.declared.fault.TableFault.TheVariants as table
use Rattle.cal_start.specs.declared.run.Started.{Started}

-- This file is what the run read next, whole. Its name is a text.
pub record IsNext (store : StoreState) (next : Next) (file : FileRead) : Type 0 where
  pub limit : ℕ
  pub longer : StartFault
  pub is_text : chars (encode_utf8_all file.name) ≡ file.name
  pub wanted : next ≡ wants (encode_utf8_all file.name) limit longer
  pub short : length file.bytes ≤ limit
  pub is_told : IfSome store.files (λ file_of. file_of (encode_utf8_all file.name) ≡ Some file.bytes)

-- P of each file and of those before it
abbrev pub EachAfter : (List FileRead → FileRead → Type 0) → List FileRead → List FileRead → Type 0
EachAfter P before [] = ⊤
EachAfter P before (file ∷ files) = P before file × EachAfter P (before ++ file ∷ []) files

-- each file was read whole after those before it
abbrev pub AreRead : StoreState → (List FileRead → Next) → List FileRead → Type 0
AreRead store next files = EachAfter (λ before file. IsNext store (next before) file) [] files

-- Each file that the store gave to its end was put into the list.
abbrev pub KeepsEach : StoreState → StoreState → List FileRead → List FileRead → Type 0
KeepsEach old new before after = new.ends + length before ≤ old.ends + length after

-- ---- the cause of each end

-- The file that is read next has this fault: it is longer than its limit.
pub record IsLonger (store : StoreState) (next : Next) (fault : StartFault) : Type 0 where
  pub name : List ℕ
  pub limit : ℕ
  pub wanted : next ≡ wants name limit fault
  pub longer : IfSome store.files (λ file_of. IsSomeAnd (file_of name) (λ whole. limit < length whole))

-- Faults rose for the file that is read next.
pub record IsBroken (old new : StoreState) (next : Next) : Type 0 where
  pub name : List ℕ
  pub limit : ℕ
  pub longer : StartFault
  pub wanted : next ≡ wants name limit longer
  pub rose : RoseFor old new name

abbrev pub EndCause : StoreState → StoreState → Next → Result Started StartFault → Type 0
EndCause old new next (Ok started) = next ≡ done started.schema started.db
EndCause old new next (Err NotJson) = next ≡ stops NotJson
EndCause old new next (Err (BadModel path cause)) = next ≡ stops (BadModel path cause)
EndCause old new next (Err (Table t (table.Csv fault))) = (next ≡ stops (Table t (table.Csv fault))) × (fault ≢ csv.NoMemory)
EndCause old new next (Err (Table t (table.TooBig limit))) = IsLonger old next (Table t (table.TooBig limit))
EndCause old new next (Err (TooBig limit)) = IsLonger old next (TooBig limit)
EndCause old new next (Err ReadFault) = IsBroken old new next
EndCause old new next (Err NoMemory) = ⊤
