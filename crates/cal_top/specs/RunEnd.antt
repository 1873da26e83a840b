-- How a run ends before its text is written, and when two ends are the same, for the law that it ends one way.
use Rattle.std.specs.Prelude.{◌≡◌, ◌≢◌, ℕ, List, Option, Some, None, ⊤}
use Rattle.cal_outside.specs.Faults.{Rose}
use Rattle.cal_outside.specs.Store.{StoreState}
use Rattle.cal_schema.specs.declared.database.Db.{Db}
use Rattle.cal_start.specs.declared.files.FileRead.{FileRead}
use Rattle.rule_hep.specs.Meaning.{Meaning}
use Rattle.session_lane.specs.declared.reply.Reply.{Reply}
use Rattle.session_lane.specs.Replies.{AreSameReplies}
use Rattle.cal_top.specs.Run.{HasCause}
use Rattle.cal_top.specs.declared.record.TopFault.{TopFault}
use Rattle.cal_top.specs.declared.record.TopFault.TheVariants.{NoMemory}

pub record RunEnd : Type 0 where
  pub fault : Option TopFault
  pub files : List FileRead
  pub db : Option Db
  pub reply : Option Reply

-- It has its cause, no fault was counted, and memory didn't end.
pub record IsRightEnd (rules : List Meaning) (old : StoreState) (words : List (List ℕ)) (end : RunEnd) : Type 0 where
  pub new : StoreState
  pub calm : Rose old.faults new.faults → ⊥
  pub memory : end.fault ≢ Some NoMemory
  pub cause : HasCause rules old new words end.fault end.files end.db end.reply

-- the same replies up to the order of rows, or none
abbrev pub HaveSameReplies : Option Reply → Option Reply → Type 0
HaveSameReplies (Some a) (Some b) = AreSameReplies a b
HaveSameReplies None None = ⊤
HaveSameReplies (Some a) None = ⊥
HaveSameReplies None (Some b) = ⊥

-- the same fault, files and tables, and the same reply up to the order of its rows
pub record AreSameEnds (a b : RunEnd) : Type 0 where
  pub fault : a.fault ≡ b.fault
  pub files : a.files ≡ b.files
  pub db : a.db ≡ b.db
  pub reply : HaveSameReplies a.reply b.reply
