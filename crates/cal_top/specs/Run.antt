-- What holds at each end of a run.
use Rattle.std.specs.Prelude.{◌≡◌, ◌⊎◌, ◌≤◌, ℕ, List, [], length, Option, Some, None, Err, IsSomeAnd, ⊤}
use Rattle.cal_outside.specs.Sink.{SinkState, with_text, IsCut}
use Rattle.cal_outside.specs.Store.{StoreState}
use Rattle.cal_schema.specs.declared.database.Db.{Db}
use Rattle.cal_schema.specs.declared.schema.Schema.{Schema}
use Rattle.cal_start.specs.Ends.{AreRead, EndCause}
use Rattle.cal_start.specs.Next.{Next, wants, stops, done, next_of}
use Rattle.cal_start.specs.declared.fault.StartFault.{StartFault}
use Rattle.cal_start.specs.declared.files.FileRead.{FileRead}
use Rattle.command_line.specs.Reading.{reading}
use Rattle.command_line.specs.declared.reading.Asked.{Asked}
use Rattle.rule_hep.specs.Meaning.{Meaning}
use Rattle.session_lane.specs.declared.reply.Reply.{Reply}
use Rattle.cal_snapshot.specs.Parts.{start_of}
use Rattle.session_lane.specs.Replies.{IsReplyTo}
use Rattle.cal_top.specs.Texts.{status_of, top_fault}
use Rattle.cal_top.specs.declared.record.QueryRecord.{QueryRecord}
use Rattle.cal_top.specs.declared.record.TopFault.{TopFault}
use Rattle.cal_top.specs.declared.record.TopFault.TheVariants.{BadWords, SinkFault, NoMemory}

-- there are no tables and no reply
abbrev pub NoReply : Option Db → Option Reply → Type 0
NoReply db reply = (db ≡ None) × (reply ≡ None)

-- nothing was read
abbrev pub NothingRead : List FileRead → Option Db → Option Reply → Type 0
NothingRead files db reply = (files ≡ []) × NoReply db reply

-- The words ask something, each file was read whole after those before it, and P says what came of it.
pub record HasRead (store : StoreState) (words : List (List ℕ)) (files : List FileRead) (P : Asked → Type 0) : Type 0 where
  pub asked : Asked
  pub words_have : reading words ≡ Some asked
  pub read : AreRead store (next_of asked.model) files
  pub then : P asked

-- the files give a schema and its tables, and the statement has its reply over a first snapshot of them, planned by these rules
pub record IsReplied (rules : List Meaning) (next : Next) (asked : Asked) (db : Option Db) (reply : Option Reply) : Type 0 where
  pub schema : Schema
  pub tables : Db
  pub answer : Reply
  pub all_read : next ≡ done schema tables
  pub db_is : db ≡ Some tables
  pub reply_is : reply ≡ Some answer
  pub replied : IsReplyTo rules asked.budget schema (start_of tables.tables) asked.sql answer

-- the start ended with this fault, for its cause
pub record IsStopped (old new : StoreState) (next : Next) (fault : TopFault) (db : Option Db) (reply : Option Reply) : Type 0 where
  pub start : StartFault
  pub fault_is : fault ≡ top_fault start
  pub cause : EndCause old new next (Err start)
  pub no_reply : NoReply db reply

-- The cause of each fault that a run may end with, and of none. At want of memory, which is free, tables and reply are both there and right,
-- or both absent.
abbrev pub HasCause : List Meaning → StoreState → StoreState → List (List ℕ) → Option TopFault → List FileRead → Option Db → Option Reply → Type 0
HasCause rules old new words None files db reply = HasRead old words files (λ asked. IsReplied rules (next_of asked.model files) asked db reply)
HasCause rules old new words (Some BadWords) files db reply = (reading words ≡ None) × NothingRead files db reply
HasCause rules old new words (Some (SinkFault of)) files db reply = ⊥
HasCause rules old new words (Some NoMemory) files db reply =
    NothingRead files db reply ⊎ HasRead old words files (λ asked. NoReply db reply ⊎ IsReplied rules (next_of asked.model files) asked db reply)
HasCause rules old new words (Some fault) files db reply = HasRead old words files (λ asked. IsStopped old new (next_of asked.model files) fault db reply)

-- ---- the end

-- all of the text was written
pub record Wrote (fault : Option TopFault) (text : List ℕ) (old new : SinkState) (r : QueryRecord) : Type 0 where
  pub status : r.status ≡ status_of fault r.reply
  pub fault_is : r.fault ≡ fault
  pub state : new ≡ with_text old text

-- the sink failed at the text of this status
pub record Cut (fault : Option TopFault) (text : List ℕ) (old new : SinkState) (r : QueryRecord) : Type 0 where
  pub status : r.status ≡ 6
  pub fault_is : r.fault ≡ Some (SinkFault (status_of fault r.reply))
  pub cut : IsCut old new text

abbrev pub Ends : Option TopFault → List ℕ → SinkState → SinkState → QueryRecord → Type 0
Ends fault text old new r = Wrote fault text old new r ⊎ Cut fault text old new r

-- ---- valid input

-- the file that is read next is there and keeps its limit, and nothing stops the run
abbrev pub IsFine : (List ℕ → Option (List ℕ)) → Next → Type 0
IsFine file (wants name limit longer) = IsSomeAnd (file name) (λ whole. length whole ≤ limit)
IsFine file (stops fault) = ⊥
IsFine file (done schema db) = ⊤

-- the words have a reading, and whatever was read of the told files, all is fine with what comes next
pub record IsValid (store : StoreState) (words : List (List ℕ)) : Type 0 where
  pub file : List ℕ → Option (List ℕ)
  pub asked : Asked
  pub told_files : store.files ≡ Some file
  pub words_have : reading words ≡ Some asked
  pub fine : (files : List FileRead) → AreRead store (next_of asked.model) files → IsFine file (next_of asked.model files)
