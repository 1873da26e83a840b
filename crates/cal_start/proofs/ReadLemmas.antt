-- Files that were read one after another.
use Rattle.std.proofs.Common.{◌≡◌, ◌≤◌, ℕ, ◌+◌, List, [], ◌∷◌, ◌++◌, Option, Some, None, Ok, Err, Result, length, sym, ap, ◌∙◌, subst, append-nil, append_assoc, length-append, arith, inl, inr}
use Rattle.std.specs.Prelude.{◌⊎◌, ◌<◌, IfSome, IsSomeAnd, encode_utf8_all}
use Rattle.cal_outside.specs.Faults.{Rose}
use Rattle.cal_outside.specs.Reads.{with_end}
use Rattle.cal_outside.specs.Store.{StoreState, IsLater, RoseFor}
use Rattle.cal_start.specs.Ends.{EachAfter, IsNext, IsLonger, EndCause, KeepsEach}
use Rattle.cal_start.specs.Next.{Next}
use Rattle.cal_start.specs.declared.fault.StartFault.{StartFault}
use Rattle.cal_start.specs.declared.fault.StartFault.TheVariants.{NotJson, BadModel, TooBig, Table, ReadFault, NoMemory}
use Rattle.cal_start.specs.declared.fault.TableFault.TheVariants as table
use Rattle.cal_start.specs.declared.files.FileRead.{FileRead}
use Rattle.cal_start.specs.declared.run.Started.{Started}

pub EachAfter-push : (P : List FileRead → FileRead → Type 0) (before files : List FileRead) (file : FileRead)
    → EachAfter P before files → P (before ++ files) file → EachAfter P before (files ++ file ∷ [])
EachAfter-push P before [] file all last = (subst (λ (b : List FileRead). P b file) (append-nil before) last, tt)
EachAfter-push P before (f ∷ files) file all last =
    (all.0, EachAfter-push P (before ++ f ∷ []) files file all.1 (subst (λ (b : List FileRead). P b file) (sym (append_assoc before (f ∷ []) files)) last))

-- the same with one file before all
pub EachAfter-cons : (P : List FileRead → FileRead → Type 0) (Q : List FileRead → FileRead → Type 0) (first : FileRead)
    → ((before : List FileRead) (file : FileRead) → P before file → Q (first ∷ before) file)
    → (before files : List FileRead) → EachAfter P before files → EachAfter Q (first ∷ before) files
EachAfter-cons P Q first one before [] all = tt
EachAfter-cons P Q first one before (f ∷ files) all = (one before f all.0, EachAfter-cons P Q first one (before ++ f ∷ []) files all.1)

-- ---- what holds of a store holds of it earlier too

abbrev Files : Type 0
Files = Option (List ℕ → Option (List ℕ))

pub later_twice : (a b c : StoreState) → IsLater a b → IsLater b c → IsLater a c
later_twice a b c p q = record {
  same = q.same ∙ p.same;
  faults = omega (arith, p.faults, q.faults);
  broken = omega (arith, p.broken, q.broken);
  ends = omega (arith, p.ends, q.ends);
}

broken_for_later : (files : Files) (name : List ℕ) (b0 b b' : ℕ) → b0 ≤ b
    → IfSome files (λ file_of. (file_of name ≡ None) ⊎ Rose b b') → IfSome files (λ file_of. (file_of name ≡ None) ⊎ Rose b0 b')
broken_for_later None name b0 b b' p r = tt
broken_for_later (Some file_of) name b0 b b' p r = elim r [ inl none ↦ inl none | inr rose ↦ inr (omega (arith, rose, p)) ]

pub rose_for_later : (a b c : StoreState) (name : List ℕ) → IsLater a b → RoseFor b c name → RoseFor a c name
rose_for_later a b c name p r = (
  omega (arith, r.0, p.faults),
  subst (λ (files : Files). IfSome files (λ file_of. (file_of name ≡ None) ⊎ Rose a.broken c.broken)) p.same
      (broken_for_later b.files name a.broken b.broken c.broken p.broken r.1),
)

pub told_for_later : (a b : StoreState) (name bytes : List ℕ) → IsLater a b
    → IfSome b.files (λ file_of. file_of name ≡ Some bytes) → IfSome a.files (λ file_of. file_of name ≡ Some bytes)
told_for_later a b name bytes p told = subst (λ (files : Files). IfSome files (λ file_of. file_of name ≡ Some bytes)) p.same told

pub longer_for_later : (a b : StoreState) (name : List ℕ) (limit : ℕ) → IsLater a b
    → IfSome b.files (λ file_of. IsSomeAnd (file_of name) (λ whole. limit < length whole))
    → IfSome a.files (λ file_of. IsSomeAnd (file_of name) (λ whole. limit < length whole))
longer_for_later a b name limit p longer =
    subst (λ (files : Files). IfSome files (λ file_of. IsSomeAnd (file_of name) (λ whole. limit < length whole))) p.same longer

pub next_for_later : (a b : StoreState) (next : Next) (file : FileRead) → IsLater a b → IsNext b next file → IsNext a next file
next_for_later a b next file p n = record {
  is_text = n.is_text;
  limit = n.limit;
  longer = n.longer;
  wanted = n.wanted;
  short = n.short;
  is_told = told_for_later a b (encode_utf8_all file.name) file.bytes p n.is_told;
}

is_longer_for_later : (a b : StoreState) (next : Next) (fault : StartFault) → IsLater a b → IsLonger b next fault → IsLonger a next fault
is_longer_for_later a b next fault p l = record {
  name = l.name;
  limit = l.limit;
  wanted = l.wanted;
  longer = longer_for_later a b l.name l.limit p l.longer;
}

pub cause_for_later : (a b c : StoreState) (next : Next) (result : Result Started StartFault) → IsLater a b → EndCause b c next result → EndCause a c next result
cause_for_later a b c next (Ok started) p e = e
cause_for_later a b c next (Err NotJson) p e = e
cause_for_later a b c next (Err (BadModel path cause)) p e = e
cause_for_later a b c next (Err (Table t (table.Csv fault))) p e = e
cause_for_later a b c next (Err (Table t (table.TooBig limit))) p e = is_longer_for_later a b next _ p e
cause_for_later a b c next (Err (TooBig limit)) p e = is_longer_for_later a b next _ p e
cause_for_later a b c next (Err NoMemory) p e = e
cause_for_later a b c next (Err ReadFault) p e = record {
  name = e.name;
  limit = e.limit;
  longer = e.longer;
  wanted = e.wanted;
  rose = rose_for_later a b c e.name p e.rose;
}

-- ---- each file is kept

pub keeps_none : (old new : StoreState) (before after : List FileRead) → new.ends ≡ old.ends → after ≡ before → KeepsEach old new before after
keeps_none old new before after e same = rw (e, same) (omega arith)

pub keeps_one : (old new : StoreState) (before after : List FileRead) (file : FileRead)
    → new ≡ with_end old → after ≡ before ++ file ∷ [] → KeepsEach old new before after
keeps_one old new before after file e more =
    let ends : new.ends ≡ (with_end old).ends = ap (λ (s : StoreState). s.ends) e in
    let count : length after ≡ length before + 1 = ap length more ∙ length-append before (file ∷ []) in
    omega (arith, ends, count)

pub keeps_twice : (a b c : StoreState) (first second third : List FileRead) → KeepsEach a b first second → KeepsEach b c second third → KeepsEach a c first third
keeps_twice a b c first second third p q = omega (arith, p, q)
