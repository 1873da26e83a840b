-- Where no memory is left for the text of a run, and how a run over valid input ends.
use Rattle.std.proofs.Common.{◌≡◌, ◌≤◌, ◌<◌, ℕ, List, Option, Some, None, ◌⊎◌, inl, inr, sym, ap, subst, ◌∙◌, arith, refl}
use Rattle.std.specs.Prelude.{Result, Ok, Err, IfSome, length, IsSomeAnd, option_map}
use Rattle.cal_outside.specs.Faults.{Rose, one_more}
use Rattle.cal_outside.specs.Sink.{SinkState}
use Rattle.cal_outside.specs.Store.{StoreState}
use Rattle.cal_schema.specs.declared.database.Db.{Db}
use Rattle.cal_start.specs.Ends.{AreRead, EndCause, IsLonger}
use Rattle.cal_schema.specs.declared.schema.Schema.{Schema}
use Rattle.cal_start.specs.Next.{Next, stops, done, next_of}
use Rattle.cal_start.specs.declared.fault.StartFault.{StartFault}
use Rattle.cal_start.specs.declared.fault.StartFault.TheVariants as start
use Rattle.cal_start.specs.declared.fault.TableFault.TheVariants as table
use Rattle.cal_start.specs.declared.files.FileRead.{FileRead}
use Rattle.cal_start.specs.declared.run.Started.{Started}
use Rattle.command_line.specs.Reading.{reading}
use Rattle.command_line.specs.declared.reading.Asked.{Asked}
use Rattle.rule_hep.specs.Meaning.{Meaning}
use Rattle.session_lane.specs.declared.reply.Reply.{Reply}
use Rattle.session_lane.specs.declared.reply.Reply.TheVariants.{Rows, Plan, Memo, Refused}
use Rattle.cal_top.specs.Run.{NoReply, HasRead, IsStopped, HasCause, IsFine, IsValid, Ends}
use Rattle.cal_top.specs.Texts.{status_of, top_fault, schema_in, schema_of}
use Rattle.cal_top.specs.declared.record.QueryRecord.{QueryRecord}
use Rattle.cal_top.specs.declared.record.TopFault.{TopFault}
use Rattle.cal_top.specs.declared.record.TopFault.TheVariants.{BadWords, NotJson, BadModel, Table, TooBig, ReadFault, SinkFault, NoMemory}

-- ---- want of memory

stopped_without_memory : (rules : List Meaning) (old new : StoreState) (words : List (List ℕ)) (fault : TopFault) (files : List FileRead) (db : Option Db) (reply : Option Reply)
    → HasRead old words files (λ asked. IsStopped old new (next_of asked.model files) fault db reply) → HasCause rules old new words (Some NoMemory) files db reply
stopped_without_memory rules old new words fault files db reply r =
    inr (record { asked = r.asked; words_have = r.words_have; read = r.read; then = inl r.then.no_reply })

pub cause_without_memory : (rules : List Meaning) (old new : StoreState) (words : List (List ℕ)) (fault : Option TopFault) (files : List FileRead) (db : Option Db) (reply : Option Reply)
    → HasCause rules old new words fault files db reply → HasCause rules old new words (Some NoMemory) files db reply
cause_without_memory rules old new words None files db reply r =
    inr (record { asked = r.asked; words_have = r.words_have; read = r.read; then = inr r.then })
cause_without_memory rules old new words (Some BadWords) files db reply r = inl r.1
cause_without_memory rules old new words (Some NotJson) files db reply r = stopped_without_memory rules old new words _ files db reply r
cause_without_memory rules old new words (Some (BadModel path cause)) files db reply r = stopped_without_memory rules old new words _ files db reply r
cause_without_memory rules old new words (Some (Table t fault)) files db reply r = stopped_without_memory rules old new words _ files db reply r
cause_without_memory rules old new words (Some (TooBig limit)) files db reply r = stopped_without_memory rules old new words _ files db reply r
cause_without_memory rules old new words (Some ReadFault) files db reply r = stopped_without_memory rules old new words _ files db reply r
cause_without_memory rules old new words (Some (SinkFault of)) files db reply r = absurd r
cause_without_memory rules old new words (Some NoMemory) files db reply r = r

-- ---- valid input

not_stopped : (file : List ℕ → Option (List ℕ)) (next : Next) (fault : StartFault) → IsFine file next → next ≡ stops fault → ⊥
not_stopped file next fault fine is = subst (λ (n : Next). IsFine file n) is fine

both_lengths : (o : Option (List ℕ)) (limit : ℕ) → IsSomeAnd o (λ whole. length whole ≤ limit) → IsSomeAnd o (λ whole. limit < length whole) → ⊥
both_lengths None limit few many = absurd few
both_lengths (Some whole) limit few many = omega arith

not_longer : (store : StoreState) (file : List ℕ → Option (List ℕ)) (next : Next) (fault : StartFault) → store.files ≡ Some file → IsFine file next → IsLonger store next fault → ⊥
not_longer store file next fault told fine long =
    let longer = subst (λ (files : Option (List ℕ → Option (List ℕ))). IfSome files (λ file_of. IsSomeAnd (file_of long.name) (λ whole. long.limit < length whole))) told long.longer in
    both_lengths (file long.name) long.limit (subst (λ (n : Next). IsFine file n) long.wanted fine) longer

no_start_fault : (old new : StoreState) (file : List ℕ → Option (List ℕ)) (next : Next) (fault : StartFault) → old.files ≡ Some file → IsFine file next
    → (Rose old.faults new.faults → ⊥) → EndCause old new next (Err fault) → fault ≡ start.NoMemory
no_start_fault old new file next start.NotJson told fine calm cause = absurd (not_stopped file next _ fine cause)
no_start_fault old new file next (start.BadModel path c) told fine calm cause = absurd (not_stopped file next _ fine cause)
no_start_fault old new file next (start.Table t (table.Csv c)) told fine calm cause = absurd (not_stopped file next _ fine cause.0)
no_start_fault old new file next (start.Table t (table.TooBig limit)) told fine calm cause = absurd (not_longer old file next _ told fine cause)
no_start_fault old new file next (start.TooBig limit) told fine calm cause = absurd (not_longer old file next _ told fine cause)
no_start_fault old new file next start.ReadFault told fine calm cause = absurd (calm cause.rose.0)
no_start_fault old new file next start.NoMemory told fine calm cause = refl

same_asked : (words : List (List ℕ)) (a b : Asked) → reading words ≡ Some a → reading words ≡ Some b → a ≡ b
same_asked words a b e f = some_same a b (sym e ∙ f)
  where
    some_same : (a b : Asked) → Some a ≡ Some b → a ≡ b
    some_same a b e = Prim.cc

-- what stopped a run over valid input is want of memory
stopped_for_memory : (old new : StoreState) (words : List (List ℕ)) (fault : TopFault) (files : List FileRead) (db : Option Db) (reply : Option Reply)
    → IsValid old words → (Rose old.faults new.faults → ⊥)
    → HasRead old words files (λ asked. IsStopped old new (next_of asked.model files) fault db reply) → fault ≡ NoMemory
stopped_for_memory old new words fault files db reply valid calm r =
    let same = same_asked words r.asked valid.asked r.words_have valid.words_have in
    let fine = subst (λ (a : Asked). AreRead old (next_of a.model) files → IsFine valid.file (next_of a.model files)) (sym same) (valid.fine files) r.read in
    r.then.fault_is ∙ ap top_fault (no_start_fault old new valid.file (next_of r.asked.model files) r.then.start valid.told_files fine calm r.then.cause)

-- there is no fault, or want of memory
abbrev pub IsCalm : Option TopFault → Type 0
IsCalm fault = (fault ≡ None) ⊎ (fault ≡ Some NoMemory)

pub calm_when_valid : (rules : List Meaning) (old new : StoreState) (words : List (List ℕ)) (fault : Option TopFault) (files : List FileRead) (db : Option Db) (reply : Option Reply)
    → IsValid old words → (Rose old.faults new.faults → ⊥) → HasCause rules old new words fault files db reply → IsCalm fault
calm_when_valid rules old new words None files db reply valid calm r = inl refl
calm_when_valid rules old new words (Some BadWords) files db reply valid calm r = absurd (none_some (sym r.0 ∙ valid.words_have))
  where
    none_some : None ≡ Some valid.asked → ⊥
    none_some e = Prim.cc
calm_when_valid rules old new words (Some NotJson) files db reply valid calm r = inr (ap Some (stopped_for_memory old new words _ files db reply valid calm r))
calm_when_valid rules old new words (Some (BadModel path cause)) files db reply valid calm r = inr (ap Some (stopped_for_memory old new words _ files db reply valid calm r))
calm_when_valid rules old new words (Some (Table t c)) files db reply valid calm r = inr (ap Some (stopped_for_memory old new words _ files db reply valid calm r))
calm_when_valid rules old new words (Some (TooBig limit)) files db reply valid calm r = inr (ap Some (stopped_for_memory old new words _ files db reply valid calm r))
calm_when_valid rules old new words (Some ReadFault) files db reply valid calm r = inr (ap Some (stopped_for_memory old new words _ files db reply valid calm r))
calm_when_valid rules old new words (Some (SinkFault of)) files db reply valid calm r = absurd r
calm_when_valid rules old new words (Some NoMemory) files db reply valid calm r = inr refl

abbrev pub IsFineStatus : ℕ → Type 0
IsFineStatus status = (status ≡ 0) ⊎ (status ≡ 1) ⊎ (status ≡ 7)

reply_is_fine : (reply : Option Reply) (status : ℕ) → status ≡ status_of None reply → IsFineStatus status
reply_is_fine (Some (Rows at names answer)) status e = inl e
reply_is_fine (Some (Plan at planning)) status e = inl e
reply_is_fine (Some (Memo at planning)) status e = inl e
reply_is_fine (Some (Refused at cause)) status e = inr (inl e)
reply_is_fine None status e = inl e

end_is_fine : (fault : Option TopFault) (reply : Option Reply) (status : ℕ) → IsCalm fault → status ≡ status_of fault reply → IsFineStatus status
end_is_fine fault reply status (inl none) e = reply_is_fine reply status (subst (λ (t : Option TopFault). status ≡ status_of t reply) none e)
end_is_fine fault reply status (inr memory) e = inr (inr (subst (λ (t : Option TopFault). status ≡ status_of t reply) memory e))

pub fine_end : (fault : Option TopFault) (text : List ℕ) (old new : SinkState) (r : QueryRecord) → IsCalm fault → (Rose old.faults new.faults → ⊥) → Ends fault text old new r → IsFineStatus r.status
fine_end fault text old new r calm still (inl wrote) = end_is_fine fault r.reply r.status calm wrote.status
fine_end fault text old new r calm still (inr cut) =
    let count : new.faults ≡ one_more old.faults = ap (λ (s : SinkState). s.faults) cut.cut.state in
    absurd (still (omega (arith, count)))

-- ---- the end of a start

-- a start that ended with this fault gives the run its cause
pub stopped_cause : (rules : List Meaning) (old new : StoreState) (words : List (List ℕ)) (asked : Asked) (fault : StartFault) (files : List FileRead) (db : Option Db) (reply : Option Reply)
    → reading words ≡ Some asked → AreRead old (next_of asked.model) files → EndCause old new (next_of asked.model files) (Err fault) → NoReply db reply
    → HasCause rules old new words (Some (top_fault fault)) files db reply
stopped_cause rules old new words asked start.NotJson files db reply has read cause none =
    record { asked = asked; words_have = has; read = read; then = record { start = start.NotJson; fault_is = refl; cause = cause; no_reply = none } }
stopped_cause rules old new words asked (start.BadModel path c) files db reply has read cause none =
    record { asked = asked; words_have = has; read = read; then = record { start = start.BadModel path c; fault_is = refl; cause = cause; no_reply = none } }
stopped_cause rules old new words asked (start.Table t c) files db reply has read cause none =
    record { asked = asked; words_have = has; read = read; then = record { start = start.Table t c; fault_is = refl; cause = cause; no_reply = none } }
stopped_cause rules old new words asked (start.TooBig limit) files db reply has read cause none =
    record { asked = asked; words_have = has; read = read; then = record { start = start.TooBig limit; fault_is = refl; cause = cause; no_reply = none } }
stopped_cause rules old new words asked start.ReadFault files db reply has read cause none =
    record { asked = asked; words_have = has; read = read; then = record { start = start.ReadFault; fault_is = refl; cause = cause; no_reply = none } }
stopped_cause rules old new words asked start.NoMemory files db reply has read cause none =
    inr (record { asked = asked; words_have = has; read = read; then = inl none })

-- the schema that is told is the one that the files give
pub schema-told : (words : List (List ℕ)) (asked : Asked) (files : List FileRead) (schema : Schema) (db : Db) → reading words ≡ Some asked → next_of asked.model files ≡ done schema db
    → schema_of words files ≡ schema
unfolding schema_of
schema-told words asked files schema db has is =
    ap (λ o. schema_in (option_map (λ (a : Asked). next_of a.model files) o)) has ∙ ap (λ next. schema_in (Some next)) is

pub told-over : (P : Schema → Type 0) (old new : StoreState) (words : List (List ℕ)) (asked : Asked) (outcome : Result Started StartFault) (started : Started) (schema : Schema) (files kept : List FileRead)
    → Some asked ≡ reading words → outcome ≡ Ok started → started.schema ≡ schema → EndCause old new (next_of asked.model files) outcome → kept ≡ files → P schema → P (schema_of words kept)
told-over P old new words asked outcome started schema files kept has is same cause kept_is here =
    let ended : next_of asked.model files ≡ done started.schema started.db = subst (EndCause old new (next_of asked.model files)) is cause in
    subst P (sym (ap (schema_of words) kept_is ∙ schema-told words asked files started.schema started.db (sym has) ended ∙ same)) here

pub stopped_cause_of : (rules : List Meaning) (old new : StoreState) (words : List (List ℕ)) (asked : Asked) (outcome : Result Started StartFault) (fault : StartFault) (top : TopFault)
    (files kept : List FileRead) (told : Option TopFault) (db : Option Db) (reply : Option Reply)
    → Some asked ≡ reading words → outcome ≡ Err fault → AreRead old (next_of asked.model) files → EndCause old new (next_of asked.model files) outcome
    → top ≡ top_fault fault → told ≡ Some top → kept ≡ files → db ≡ None → reply ≡ None → HasCause rules old new words told kept db reply
stopped_cause_of rules old new words asked outcome fault top files kept told db reply has is read cause top_is told_is kept_is db_is reply_is =
    rw (told_is, top_is, kept_is, db_is, reply_is)
    (stopped_cause rules old new words asked fault files None None (sym has) read (rw is at cause) (refl, refl))
