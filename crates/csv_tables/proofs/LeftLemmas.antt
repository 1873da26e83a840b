-- A read takes the first of the records that a reader has left.
use Rattle.std.proofs.Common.{◌≡◌, ◌≤◌, ◌<◌, ◌+◌, ◌-◌, ℕ, zero, suc, Bool, true, false, List, [], ◌∷◌, ◌++◌, length, Option, Some, None, IsSome, Bor, sym, ap, ◌∙◌, refl, arith, add-one, if◌then◌else◌}
use Rattle.csv.specs.Machine.{Read, next_record, step, is_end, ends_at_end, fields_after, field_after}
use Rattle.csv.specs.Reading.{ReadsNext, ReadRecord, NextIs, default_config, records_from, records_next, pending_of, reader_state}
use Rattle.csv.specs.declared.parser.Config.{Config}
use Rattle.csv.specs.declared.parser.State.{State}
use Rattle.csv.specs.declared.parser.State.TheVariants as st
use Rattle.csv.specs.declared.reader.Reader.{Reader}
use Rattle.csv_tables.specs.Left.{IsNext, IsPlain, bytes_left, left_in, left_of}

-- at least one byte is read, where there is one
next-shorter : (cfg : Config) (s : State) (fields : List (List ℕ)) (field y : List ℕ) (p : Read) → next_record cfg s fields field y ≡ Some p → length p.2 ≤ length y - 1
unfolding next_record
next-shorter cfg s fields field [] p e = by (ends_at_end s) e
  where
    by : (b : Bool) → (if b then Some (fields ++ (field ∷ []), st.StartRecord, []) else None) ≡ Some p → length p.2 ≤ 0
    by true f = let same : p.2 ≡ [] = sym (ap rest_of f) in rw same (omega arith)
      where
        rest_of : Option Read → List ℕ
        rest_of None = []
        rest_of (Some q) = q.2
    by false f = absurd (Prim.cc)
next-shorter cfg s fields field (c ∷ rest) p e = by (is_end (step cfg s c).1) e (next-shorter cfg (step cfg s c).0 (fields_after (step cfg s c).1 fields field) (field_after (step cfg s c).1 c field) rest p)
  where
    by : (b : Bool)
        → (if b then Some (fields_after (step cfg s c).1 fields field, (step cfg s c).0, rest) else next_record cfg (step cfg s c).0 (fields_after (step cfg s c).1 fields field) (field_after (step cfg s c).1 c field) rest) ≡ Some p
        → (next_record cfg (step cfg s c).0 (fields_after (step cfg s c).1 fields field) (field_after (step cfg s c).1 c field) rest ≡ Some p → length p.2 ≤ length rest - 1)
        → length p.2 ≤ length (c ∷ rest) - 1
    by true f more = let same : rest ≡ p.2 = Prim.cc in omega (arith, ap length same)
    by false f more = let h = more f in omega (arith, h)

-- at the end of the text there is no record
at_end : (cfg : Config) (n : ℕ) → records_from cfg n st.StartRecord [] ≡ []
unfolding records_from next_record
at_end cfg zero = refl
at_end cfg (suc n) = refl

-- what a text that has ended gives from a state is read in one record
last-read : (cfg : Config) (s : State) (p : Read) → next_record cfg s [] [] [] ≡ Some p → (p.1 ≡ st.StartRecord) × (p.2 ≡ [])
unfolding next_record
last-read cfg s p e = by (ends_at_end s) e
  where
    by : (b : Bool) → (if b then Some ([] ++ ([] ∷ []), st.StartRecord, []) else None) ≡ Some p → (p.1 ≡ st.StartRecord) × (p.2 ≡ [])
    by true f = (sym (ap state_in f), sym (ap rest_in f))
      where
        state_in : Option Read → State
        state_in None = st.StartRecord
        state_in (Some q) = q.1

        rest_in : Option Read → List ℕ
        rest_in None = []
        rest_in (Some q) = q.2
    by false f = absurd (Prim.cc)

-- more turns than bytes give all records
fuel : (cfg : Config) (n k : ℕ) (s : State) (y : List ℕ) → length y < n → length y < k → records_from cfg n s y ≡ records_from cfg k s y
unfolding records_from
fuel cfg zero k s y hn hk = absurd (omega arith)
fuel cfg (suc n) zero s y hn hk = absurd (omega arith)
fuel cfg (suc n) (suc k) s [] hn hk = by (next_record cfg s [] [] []) refl
  where
    by : (o : Option Read) → next_record cfg s [] [] [] ≡ o → records_next (records_from cfg n) o ≡ records_next (records_from cfg k) o
    by None e = refl
    by (Some p) e =
        let l = last-read cfg s p e in
        ap (λ (t : List (List (List ℕ))). p.0 ∷ t) (rw (l.0, l.1) (at_end cfg n ∙ sym (at_end cfg k)))
fuel cfg (suc n) (suc k) s (c ∷ rest) hn hk = by (next_record cfg s [] [] (c ∷ rest)) refl (λ p. fuel cfg n k p.1 p.2)
  where
    by : (o : Option Read) → next_record cfg s [] [] (c ∷ rest) ≡ o → ((p : Read) → length p.2 < n → length p.2 < k → records_from cfg n p.1 p.2 ≡ records_from cfg k p.1 p.2)
        → records_next (records_from cfg n) o ≡ records_next (records_from cfg k) o
    by None e more = refl
    by (Some p) e more =
        let h = next-shorter cfg s [] [] (c ∷ rest) p e in
        ap (λ (t : List (List (List ℕ))). p.0 ∷ t) (more p (omega (arith, h)) (omega (arith, h)))

-- after a record, what is left of the text gives the records after it
rest-left : (cfg : Config) (s : State) (y : List ℕ) (p : Read) → next_record cfg s [] [] y ≡ Some p → records_from cfg (length p.2 + 1) p.1 p.2 ≡ records_from cfg (length y) p.1 p.2
rest-left cfg s [] p e = let l = last-read cfg s p e in rw (l.0, l.1) (at_end cfg 1 ∙ sym (at_end cfg 0))
rest-left cfg s (c ∷ rest) p e = let h = next-shorter cfg s [] [] (c ∷ rest) p e in fuel cfg (length p.2 + 1) (length (c ∷ rest)) p.1 p.2 (omega arith) (omega (arith, h))

next-read : (cfg : Config) (s : State) (y : List ℕ) (o : Option Read) (found : Bool) (fields : List (List ℕ)) (s2 : State) (z : List ℕ)
    → next_record cfg s [] [] y ≡ o → NextIs o found fields s2 z
    → IsNext (records_next (records_from cfg (length y)) o) found fields (records_from cfg (length z + 1) s2 z)
next-read cfg s y None found fields s2 z e h = h
next-read cfg s y (Some p) found fields s2 z e h = (h.0, h.1, rw (h.2, h.3) (rest-left cfg s y p e))

next-in : (s : State) (y k : Option (List ℕ)) (found : Bool) (fields : List (List ℕ)) (s2 : State) → IsSome y → ReadsNext default_config s y k found fields s2
    → IsNext (left_in y s) found fields (left_in k s2)
unfolding records_from
next-in s None k found fields s2 known h = absurd (Prim.cc)
next-in s (Some y) None found fields s2 known h = absurd h
next-in s (Some y) (Some z) found fields s2 known h =
    let e : records_from default_config (length y + 1) s y ≡ records_next (records_from default_config (length y)) (next_record default_config s [] [] y) = rw add-one refl in
    rw e (next-read default_config s y (next_record default_config s [] [] y) found fields s2 z refl h)

-- what a read says of the reader after it
abbrev pub IsReadBy : Reader (Bor (List ℕ)) → Reader (Bor (List ℕ)) → Bool → List (List ℕ) → Type 0
IsReadBy old new found fields = ReadRecord (λ bytes. Some bytes.now) old new found fields

bytes-pending : (old new : Reader (Bor (List ℕ))) (found : Bool) (fields : List (List ℕ)) → IsReadBy old new found fields → bytes_left new ≡ pending_of (Some new.rdr.now) new
bytes-pending old new found fields r = rw r.1 refl

pub left-next : (old new : Reader (Bor (List ℕ))) (found : Bool) (fields : List (List ℕ)) → IsPlain old → IsReadBy old new found fields
    → IsNext (left_of old) found fields (left_of new)
unfolding left_of
left-next old new found fields plain r =
    rw (bytes-pending old new found fields r) (next-in (reader_state old) (bytes_left old) (pending_of (Some new.rdr.now) new) found fields (reader_state new) plain.known (rw plain.config at r.0))
