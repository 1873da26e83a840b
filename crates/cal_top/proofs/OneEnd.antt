-- At most one fault, one list of files, one list of tables and, up to the order of its rows, one reply are right for given words, over told
-- files without a counted fault.
use Rattle.std.proofs.Common.{◌≡◌, ◌≤◌, ◌<◌, ℕ, List, [], ◌∷◌, ◌++◌, Option, Some, None, ◌⊎◌, inl, inr, sym, ap, subst, ◌∙◌, arith, refl, append-nil, append_assoc}
use Rattle.std.specs.Prelude.{◌≢◌, Err, IfSome, IsSomeAnd, length, encode_utf8_all}
use Rattle.std.specs.Str.{chars}
use Rattle.cal_outside.specs.Faults.{Rose}
use Rattle.cal_outside.specs.Store.{StoreState}
use Rattle.cal_schema.specs.declared.database.Db.{Db}
use Rattle.cal_schema.specs.declared.schema.Schema.{Schema}
use Rattle.cal_start.specs.Ends.{AreRead, EachAfter, EndCause, IsLonger, IsNext}
use Rattle.cal_start.specs.Next.{Next, wants, stops, done, next_of}
use Rattle.cal_start.specs.declared.fault.StartFault.{StartFault}
use Rattle.cal_start.specs.declared.fault.StartFault.TheVariants as start
use Rattle.cal_start.specs.declared.fault.TableFault.TheVariants as table
use Rattle.cal_start.specs.declared.files.FileRead.{FileRead}
use Rattle.command_line.specs.Reading.{reading}
use Rattle.command_line.specs.declared.reading.Asked.{Asked}
use Rattle.session_lane.specs.declared.reply.Reply.{Reply}
use Rattle.rule_hep.specs.Meaning.{Meaning}
use Rattle.cal_snapshot.specs.Parts.{Parts, start_of}
use Rattle.session_lane.specs.Replies.{AreSameReplies, IsReplyTo}
use Rattle.cal_top.specs.Run.{NothingRead, HasRead, IsReplied, IsStopped, HasCause}
use Rattle.cal_top.specs.RunEnd.{AreSameEnds, HaveSameReplies, RunEnd, IsRightEnd}
use Rattle.cal_top.specs.Texts.{top_fault}
use Rattle.cal_top.specs.declared.record.TopFault.{TopFault}
use Rattle.cal_top.specs.declared.record.TopFault.TheVariants.{BadWords, NotJson, BadModel, Table, TooBig, ReadFault, SinkFault, NoMemory}

abbrev Files : Type 0
Files = List ℕ → Option (List ℕ)

-- ---- the files that were read

some_bytes : (a b : List ℕ) → Some a ≡ Some b → a ≡ b
some_bytes a b e = Prim.cc

same_wanted : (a b : List ℕ) (m n : ℕ) (f g : StartFault) → wants a m f ≡ wants b n g → a ≡ b
same_wanted a b m n f g e = Prim.cc

same_limit : (a b : List ℕ) (m n : ℕ) (f g : StartFault) → wants a m f ≡ wants b n g → m ≡ n
same_limit a b m n f g e = Prim.cc

told_at : (store : StoreState) (file : Files) (name bytes : List ℕ) → store.files ≡ Some file
    → IfSome store.files (λ file_of. file_of name ≡ Some bytes) → file name ≡ Some bytes
told_at store file name bytes told is = subst (λ (files : Option Files). IfSome files (λ file_of. file_of name ≡ Some bytes)) told is

abbrev file_read : List ℕ → List ℕ → FileRead
file_read name bytes = record { name = name; bytes = bytes }

same_file : (a b c d : List ℕ) → a ≡ b → c ≡ d → file_read a c ≡ file_read b d
same_file a b c d e h = ap (λ (n : List ℕ). file_read n c) e ∙ ap (λ (n : List ℕ). file_read b n) h

same_next : (store : StoreState) (file : Files) (next : Next) (f g : FileRead) → store.files ≡ Some file → IsNext store next f → IsNext store next g → f ≡ g
same_next store file next f g told p q =
    let coded : encode_utf8_all f.name ≡ encode_utf8_all g.name = same_wanted _ _ _ _ _ _ (sym p.wanted ∙ q.wanted) in
    let name : f.name ≡ g.name = sym p.is_text ∙ ap chars coded ∙ q.is_text in
    let here : file (encode_utf8_all f.name) ≡ Some f.bytes = told_at store file (encode_utf8_all f.name) f.bytes told p.is_told in
    let there : file (encode_utf8_all g.name) ≡ Some g.bytes = told_at store file (encode_utf8_all g.name) g.bytes told q.is_told in
    let bytes : f.bytes ≡ g.bytes = some_bytes f.bytes g.bytes (sym here ∙ ap file coded ∙ there) in
    same_file f.name g.name f.bytes g.bytes name bytes

-- no file follows
abbrev IsLast : StoreState → Next → Type 0
IsLast store next = (file : FileRead) → IsNext store next file → ⊥

same_files : (store : StoreState) (file : Files) (next : List FileRead → Next) → store.files ≡ Some file → (before fs gs : List FileRead)
    → EachAfter (λ b f. IsNext store (next b) f) before fs → EachAfter (λ b f. IsNext store (next b) f) before gs
    → IsLast store (next (before ++ fs)) → IsLast store (next (before ++ gs)) → fs ≡ gs
same_files store file next told before [] [] p q last last' = refl
same_files store file next told before [] (g ∷ gs) p q last last' =
    absurd (last g (subst (λ (b : List FileRead). IsNext store (next b) g) (sym (append-nil before)) q.0))
same_files store file next told before (f ∷ fs) [] p q last last' =
    absurd (last' f (subst (λ (b : List FileRead). IsNext store (next b) f) (sym (append-nil before)) p.0))
same_files store file next told before (f ∷ fs) (g ∷ gs) p q last last' =
    let same : f ≡ g = same_next store file (next before) f g told p.0 q.0 in
    let rest : EachAfter (λ b h. IsNext store (next b) h) (before ++ f ∷ []) gs =
    subst (λ (h : FileRead). EachAfter (λ b x. IsNext store (next b) x) (before ++ h ∷ []) gs) (sym same) q.1 in
    let end : IsLast store (next ((before ++ f ∷ []) ++ fs)) =
    subst (λ (b : List FileRead). IsLast store (next b)) (sym (append_assoc before (f ∷ []) fs)) last in
    let end' : IsLast store (next ((before ++ f ∷ []) ++ gs)) =
    subst (λ (b : List FileRead). IsLast store (next b)) (ap (λ (h : FileRead). before ++ h ∷ gs) (sym same) ∙ sym (append_assoc before (f ∷ []) gs)) last' in
    ap (λ (h : FileRead). h ∷ fs) same ∙ ap (λ (t : List FileRead). g ∷ t) (same_files store file next told (before ++ f ∷ []) fs gs p.1 rest end end')

-- ---- the end of a start

wants_stops : (name : List ℕ) (limit : ℕ) (longer fault : StartFault) → wants name limit longer ≡ stops fault → ⊥
wants_stops name limit longer fault e = Prim.cc

wants_done : (name : List ℕ) (limit : ℕ) (longer : StartFault) (schema : Schema) (db : Db) → wants name limit longer ≡ done schema db → ⊥
wants_done name limit longer schema db e = Prim.cc

stops_done : (fault : StartFault) (schema : Schema) (db : Db) → stops fault ≡ done schema db → ⊥
stops_done fault schema db e = Prim.cc

same_stops : (a b : StartFault) → stops a ≡ stops b → a ≡ b
same_stops a b e = Prim.cc

same_longer : (a b : List ℕ) (m n : ℕ) (f g : StartFault) → wants a m f ≡ wants b n g → f ≡ g
same_longer a b m n f g e = Prim.cc

same_schema : (s t : Schema) (a b : Db) → done s a ≡ done t b → s ≡ t
same_schema s t a b e = Prim.cc

same_tables : (s t : Schema) (a b : Db) → done s a ≡ done t b → a ≡ b
same_tables s t a b e = Prim.cc

-- what follows is this fault of the bytes, or of a file that is longer than its limit
abbrev Follows : StoreState → Next → StartFault → Type 0
Follows store next fault = (next ≡ stops fault) ⊎ IsLonger store next fault

follows : (old new : StoreState) (next : Next) (fault : StartFault) → (Rose old.faults new.faults → ⊥) → fault ≢ start.NoMemory → EndCause old new next (Err fault) → Follows old next fault
follows old new next start.NotJson calm other cause = inl cause
follows old new next (start.BadModel path c) calm other cause = inl cause
follows old new next (start.Table t (table.Csv c)) calm other cause = inl cause.0
follows old new next (start.Table t (table.TooBig limit)) calm other cause = inr cause
follows old new next (start.TooBig limit) calm other cause = inr cause
follows old new next start.ReadFault calm other cause = absurd (calm cause.rose.0)
follows old new next start.NoMemory calm other cause = absurd (other refl)

same_fault : (store : StoreState) (next : Next) (a b : StartFault) → Follows store next a → Follows store next b → a ≡ b
same_fault store next a b (inl p) (inl q) = same_stops a b (sym p ∙ q)
same_fault store next a b (inl p) (inr q) = absurd (wants_stops q.name q.limit b a (sym q.wanted ∙ p))
same_fault store next a b (inr p) (inl q) = absurd (wants_stops p.name p.limit a b (sym p.wanted ∙ q))
same_fault store next a b (inr p) (inr q) = same_longer _ _ _ _ a b (sym p.wanted ∙ q.wanted)

last_stops : (store : StoreState) (next : Next) (fault : StartFault) → next ≡ stops fault → IsLast store next
last_stops store next fault is = λ file n. wants_stops _ _ _ fault (sym n.wanted ∙ is)

last_done : (store : StoreState) (next : Next) (schema : Schema) (db : Db) → next ≡ done schema db → IsLast store next
last_done store next schema db is = λ file n. wants_done _ _ _ schema db (sym n.wanted ∙ is)

too_long : (o : Option (List ℕ)) (bytes : List ℕ) (m n : ℕ) → o ≡ Some bytes → length bytes ≤ m → m ≡ n → IsSomeAnd o (λ whole. n < length whole) → ⊥
too_long None bytes m n e short same longer = longer
too_long (Some whole) bytes m n e short same longer =
    let count : length whole ≡ length bytes = ap length (some_bytes whole bytes e) in
    omega (arith, count, short, same, longer)

last_longer : (store : StoreState) (file : Files) (next : Next) (fault : StartFault) → store.files ≡ Some file → IsLonger store next fault → IsLast store next
last_longer store file next fault told long = λ read n.
    let e = sym n.wanted ∙ long.wanted in
    let name : encode_utf8_all read.name ≡ long.name = same_wanted _ _ _ _ _ _ e in
    let here : file (encode_utf8_all read.name) ≡ Some read.bytes = told_at store file (encode_utf8_all read.name) read.bytes told n.is_told in
    let longer : IsSomeAnd (file long.name) (λ whole. long.limit < length whole) =
    subst (λ (files : Option Files). IfSome files (λ file_of. IsSomeAnd (file_of long.name) (λ whole. long.limit < length whole))) told long.longer in
    too_long (file long.name) read.bytes n.limit long.limit (ap file (sym name) ∙ here) n.short (same_limit _ _ _ _ _ _ e) longer

last_follows : (store : StoreState) (file : Files) (next : Next) (fault : StartFault) → store.files ≡ Some file → Follows store next fault → IsLast store next
last_follows store file next fault told (inl p) = last_stops store next fault p
last_follows store file next fault told (inr p) = last_longer store file next fault told p

-- ---- the end of a run

-- how a run ends, but for want of memory
record HasNoReading (words : List (List ℕ)) (fault : Option TopFault) (files : List FileRead) (db : Option Db) (reply : Option Reply) : Type 0 where
  fault_is : fault ≡ Some BadWords
  no_reading : reading words ≡ None
  nothing : NothingRead files db reply

record HasStopped (old : StoreState) (words : List (List ℕ)) (fault : Option TopFault) (files : List FileRead) (db : Option Db) (reply : Option Reply) : Type 0 where
  asked : Asked
  words_have : reading words ≡ Some asked
  read : AreRead old (next_of asked.model) files
  start : StartFault
  fault_is : fault ≡ Some (top_fault start)
  cause : Follows old (next_of asked.model files) start
  no_db : db ≡ None
  no_reply : reply ≡ None

record HasReplied (rules : List Meaning) (old : StoreState) (words : List (List ℕ)) (fault : Option TopFault) (files : List FileRead) (db : Option Db) (reply : Option Reply) : Type 0 where
  asked : Asked
  words_have : reading words ≡ Some asked
  read : AreRead old (next_of asked.model) files
  fault_is : fault ≡ None
  replied : IsReplied rules (next_of asked.model files) asked db reply

abbrev End : List Meaning → StoreState → List (List ℕ) → Option TopFault → List FileRead → Option Db → Option Reply → Type 0
End rules old words fault files db reply =
    HasNoReading words fault files db reply ⊎ HasStopped old words fault files db reply ⊎ HasReplied rules old words fault files db reply

no_start_memory : (a : StartFault) (fault : TopFault) → fault ≢ NoMemory → fault ≡ top_fault a → a ≢ start.NoMemory
no_start_memory a fault other is e = other (is ∙ ap top_fault e)

stopped_end : (rules : List Meaning) (old new : StoreState) (words : List (List ℕ)) (fault : TopFault) (files : List FileRead) (db : Option Db) (reply : Option Reply)
    → (Rose old.faults new.faults → ⊥) → fault ≢ NoMemory
    → HasRead old words files (λ asked. IsStopped old new (next_of asked.model files) fault db reply) → End rules old words (Some fault) files db reply
stopped_end rules old new words fault files db reply calm other r = inr (inl (record {
  asked = r.asked;
  words_have = r.words_have;
  read = r.read;
  start = r.then.start;
  fault_is = ap Some r.then.fault_is;
  cause = follows old new (next_of r.asked.model files) r.then.start calm (no_start_memory r.then.start fault other r.then.fault_is) r.then.cause;
  no_db = r.then.no_reply.0;
  no_reply = r.then.no_reply.1;
}))

end_of : (rules : List Meaning) (old new : StoreState) (words : List (List ℕ)) (fault : Option TopFault) (files : List FileRead) (db : Option Db) (reply : Option Reply)
    → (Rose old.faults new.faults → ⊥) → fault ≢ Some NoMemory → HasCause rules old new words fault files db reply → End rules old words fault files db reply
end_of rules old new words None files db reply calm other r =
    inr (inr (record { asked = r.asked; words_have = r.words_have; read = r.read; fault_is = refl; replied = r.then }))
end_of rules old new words (Some BadWords) files db reply calm other r = inl (record { fault_is = refl; no_reading = r.0; nothing = r.1 })
end_of rules old new words (Some NotJson) files db reply calm other r = stopped_end rules old new words NotJson files db reply calm (λ e. other (ap Some e)) r
end_of rules old new words (Some (BadModel path c)) files db reply calm other r = stopped_end rules old new words (BadModel path c) files db reply calm (λ e. other (ap Some e)) r
end_of rules old new words (Some (Table t c)) files db reply calm other r = stopped_end rules old new words (Table t c) files db reply calm (λ e. other (ap Some e)) r
end_of rules old new words (Some (TooBig limit)) files db reply calm other r = stopped_end rules old new words (TooBig limit) files db reply calm (λ e. other (ap Some e)) r
end_of rules old new words (Some ReadFault) files db reply calm other r = stopped_end rules old new words ReadFault files db reply calm (λ e. other (ap Some e)) r
end_of rules old new words (Some (SinkFault of)) files db reply calm other r = absurd r
end_of rules old new words (Some NoMemory) files db reply calm other r = absurd (other refl)

none_asked : (a : Asked) → None ≡ Some a → ⊥
none_asked a e = Prim.cc

same_asked : (a b : Asked) → Some a ≡ Some b → a ≡ b
same_asked a b e = Prim.cc

abbrev run_end : Option TopFault → List FileRead → Option Db → Option Reply → RunEnd
run_end fault files db reply = record { fault = fault; files = files; db = db; reply = reply }

same_end : (f g : Option TopFault) (fs gs : List FileRead) (d e : Option Db) (r s : Option Reply) → f ≡ g → fs ≡ gs → d ≡ e → HaveSameReplies r s
    → AreSameEnds (run_end f fs d r) (run_end g gs e s)
same_end f g fs gs d e r s p q u v = record { fault = p; files = q; db = u; reply = v }

no_replies : (r s : Option Reply) → r ≡ None → s ≡ None → HaveSameReplies r s
no_replies r s p q =
    subst (λ (x : Option Reply). HaveSameReplies x s) (sym p)
    (subst (λ (y : Option Reply). HaveSameReplies None y) (sym q) tt)

some_replies : (r s : Option Reply) (a b : Reply) → r ≡ Some a → s ≡ Some b → AreSameReplies a b → HaveSameReplies r s
some_replies r s a b p q same =
    subst (λ (x : Option Reply). HaveSameReplies x s) (sym p)
    (subst (λ (y : Option Reply). HaveSameReplies (Some a) y) (sym q) same)

-- two right replies are the same
abbrev pub OneReply : List Meaning → Type 0
OneReply rules = (budget : ℕ) (schema : Schema) (parts : Parts) (text : List ℕ) (a b : Reply) → IsReplyTo rules budget schema parts text a → IsReplyTo rules budget schema parts text b → AreSameReplies a b

same_replied : (rules : List Meaning) → OneReply rules → (next : Next) (asked : Asked) (d e : Option Db) (r s : Option Reply) → IsReplied rules next asked d r → IsReplied rules next asked e s → (d ≡ e) × HaveSameReplies r s
same_replied rules one next asked d e r s p q =
    let whole = sym p.all_read ∙ q.all_read in
    let schema = same_schema p.schema q.schema p.tables q.tables whole in
    let tables = same_tables p.schema q.schema p.tables q.tables whole in
    let moved : IsReplyTo rules asked.budget p.schema (start_of p.tables.tables) asked.sql q.answer =
    subst (λ (x : Schema). IsReplyTo rules asked.budget x (start_of p.tables.tables) asked.sql q.answer) (sym schema) (subst (λ (x : Db). IsReplyTo rules asked.budget q.schema (start_of x.tables) asked.sql q.answer) (sym tables) q.replied) in
    (p.db_is ∙ ap Some tables ∙ sym q.db_is, some_replies r s p.answer q.answer p.reply_is q.reply_is (one asked.budget p.schema (start_of p.tables.tables) asked.sql p.answer q.answer p.replied moved))

not_done : (store : StoreState) (next : Next) (fault : StartFault) (schema : Schema) (db : Db) → Follows store next fault → next ≡ done schema db → ⊥
not_done store next fault schema db (inl p) is = stops_done fault schema db (sym p ∙ is)
not_done store next fault schema db (inr p) is = wants_done _ _ _ schema db (sym p.wanted ∙ is)

stopped_or_replied : (rules : List Meaning) (old : StoreState) (file : Files) (words : List (List ℕ)) (f : Option TopFault) (fs : List FileRead) (d : Option Db) (r : Option Reply)
    (g : Option TopFault) (gs : List FileRead) (e : Option Db) (s : Option Reply)
    → old.files ≡ Some file → HasStopped old words f fs d r → HasReplied rules old words g gs e s → ⊥
stopped_or_replied rules old file words f fs d r g gs e s told p q =
    let asked : q.asked ≡ p.asked = same_asked q.asked p.asked (sym q.words_have ∙ p.words_have) in
    let read : AreRead old (next_of p.asked.model) gs = subst (λ (a : Asked). AreRead old (next_of a.model) gs) asked q.read in
    let reply : IsReplied rules (next_of p.asked.model gs) p.asked e s = subst (λ (a : Asked). IsReplied rules (next_of a.model gs) a e s) asked q.replied in
    let files : fs ≡ gs = same_files old file (next_of p.asked.model) told [] fs gs p.read read
    (last_follows old file (next_of p.asked.model fs) p.start told p.cause)
    (last_done old (next_of p.asked.model gs) reply.schema reply.tables reply.all_read) in
    not_done old (next_of p.asked.model gs) p.start reply.schema reply.tables
    (subst (λ (x : List FileRead). Follows old (next_of p.asked.model x) p.start) files p.cause) reply.all_read

one_of_ends : (rules : List Meaning) → OneReply rules → (old : StoreState) (file : Files) (words : List (List ℕ)) (f g : Option TopFault) (fs gs : List FileRead) (d e : Option Db) (r s : Option Reply)
    → old.files ≡ Some file → End rules old words f fs d r → End rules old words g gs e s
    → AreSameEnds (run_end f fs d r) (run_end g gs e s)
one_of_ends rules one old file words f g fs gs d e r s told (inl p) (inl q) =
    same_end f g fs gs d e r s (p.fault_is ∙ sym q.fault_is) (p.nothing.0 ∙ sym q.nothing.0) (p.nothing.1.0 ∙ sym q.nothing.1.0) (no_replies r s p.nothing.1.1 q.nothing.1.1)
one_of_ends rules one old file words f g fs gs d e r s told (inl p) (inr (inl q)) = absurd (none_asked q.asked (sym p.no_reading ∙ q.words_have))
one_of_ends rules one old file words f g fs gs d e r s told (inl p) (inr (inr q)) = absurd (none_asked q.asked (sym p.no_reading ∙ q.words_have))
one_of_ends rules one old file words f g fs gs d e r s told (inr (inl p)) (inl q) = absurd (none_asked p.asked (sym q.no_reading ∙ p.words_have))
one_of_ends rules one old file words f g fs gs d e r s told (inr (inr p)) (inl q) = absurd (none_asked p.asked (sym q.no_reading ∙ p.words_have))
one_of_ends rules one old file words f g fs gs d e r s told (inr (inl p)) (inr (inl q)) =
    let asked : q.asked ≡ p.asked = same_asked q.asked p.asked (sym q.words_have ∙ p.words_have) in
    let read : AreRead old (next_of p.asked.model) gs = subst (λ (a : Asked). AreRead old (next_of a.model) gs) asked q.read in
    let cause : Follows old (next_of p.asked.model gs) q.start = subst (λ (a : Asked). Follows old (next_of a.model gs) q.start) asked q.cause in
    let files : fs ≡ gs = same_files old file (next_of p.asked.model) told [] fs gs p.read read
    (last_follows old file (next_of p.asked.model fs) p.start told p.cause) (last_follows old file (next_of p.asked.model gs) q.start told cause) in
    let fault : p.start ≡ q.start = same_fault old (next_of p.asked.model fs) p.start q.start p.cause
    (subst (λ (x : List FileRead). Follows old (next_of p.asked.model x) q.start) (sym files) cause) in
    same_end f g fs gs d e r s (p.fault_is ∙ ap (λ (x : StartFault). Some (top_fault x)) fault ∙ sym q.fault_is) files (p.no_db ∙ sym q.no_db) (no_replies r s p.no_reply q.no_reply)
one_of_ends rules one old file words f g fs gs d e r s told (inr (inl p)) (inr (inr q)) =
    absurd (stopped_or_replied rules old file words f fs d r g gs e s told p q)
one_of_ends rules one old file words f g fs gs d e r s told (inr (inr p)) (inr (inl q)) =
    absurd (stopped_or_replied rules old file words g gs e s f fs d r told q p)
one_of_ends rules one old file words f g fs gs d e r s told (inr (inr p)) (inr (inr q)) =
    let asked : q.asked ≡ p.asked = same_asked q.asked p.asked (sym q.words_have ∙ p.words_have) in
    let read : AreRead old (next_of p.asked.model) gs = subst (λ (a : Asked). AreRead old (next_of a.model) gs) asked q.read in
    let reply : IsReplied rules (next_of p.asked.model gs) p.asked e s = subst (λ (a : Asked). IsReplied rules (next_of a.model gs) a e s) asked q.replied in
    let files : fs ≡ gs = same_files old file (next_of p.asked.model) told [] fs gs p.read read
    (last_done old (next_of p.asked.model fs) p.replied.schema p.replied.tables p.replied.all_read)
    (last_done old (next_of p.asked.model gs) reply.schema reply.tables reply.all_read) in
    let both : (d ≡ e) × HaveSameReplies r s = same_replied rules one (next_of p.asked.model fs) p.asked d e r s p.replied
    (subst (λ (x : List FileRead). IsReplied rules (next_of p.asked.model x) p.asked e s) (sym files) reply) in
    same_end f g fs gs d e r s (p.fault_is ∙ sym q.fault_is) files both.0 both.1

pub one_end : (rules : List Meaning) → OneReply rules → (old : StoreState) (file : Files) (words : List (List ℕ)) (a b : RunEnd) → old.files ≡ Some file
    → IsRightEnd rules old words a → IsRightEnd rules old words b → AreSameEnds a b
one_end rules one old file words a b told p q =
    one_of_ends rules one old file words a.fault b.fault a.files b.files a.db b.db a.reply b.reply told
    (end_of rules old p.new words a.fault a.files a.db a.reply p.calm p.memory p.cause)
    (end_of rules old q.new words b.fault b.files b.db b.reply q.calm q.memory q.cause)
