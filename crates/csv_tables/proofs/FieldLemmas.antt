-- Fields as text, and the fields of a record one after the other.
use Rattle.std.proofs.Common.{◌≡◌, ◌<◌, ◌+◌, ℕ, zero, suc, Bool, true, false, List, [], ◌∷◌, length, drop, Some, None, refl, arith}
use Rattle.std.specs.Str.{IsUtf8, is_utf8}
use Rattle.std.proofs.lemmas.Str.{is_utf8-from_IsUtf8, IsUtf8-from_is_utf8}
use Rattle.csv.specs.Records.{field_at}

pub is_text : (bytes : List ℕ) → IsUtf8 bytes → is_utf8 bytes ≡ true
is_text = is_utf8-from_IsUtf8

pub is_no_text : (bytes : List ℕ) → (IsUtf8 bytes → ⊥) → is_utf8 bytes ≡ false
is_no_text bytes none = by (is_utf8 bytes) (λ e. none (IsUtf8-from_is_utf8 bytes e))
  where
    by : (b : Bool) → (b ≡ true → ⊥) → b ≡ false
    by true f = absurd (f refl)
    by false f = refl

shifted : (i : ℕ) (f : List ℕ) (fs : List (List ℕ)) (field : List ℕ) → drop i fs ≡ field ∷ drop (i + 1) fs → drop i fs ≡ field ∷ drop (suc i + 1) (f ∷ fs)
shifted i f fs field h = let e : suc i + 1 ≡ suc (i + 1) = omega arith in rw e h

pub field_at-some : (fields : List (List ℕ)) (i : ℕ) (field : List ℕ) → field_at fields i ≡ Some field → drop i fields ≡ field ∷ drop (i + 1) fields
unfolding field_at
field_at-some [] i field e = absurd (Prim.cc)
field_at-some (f ∷ fs) zero field e = let same : f ≡ field = Prim.cc in rw same refl
field_at-some (f ∷ fs) (suc i) field e = shifted i f fs field (field_at-some fs i field e)

pub field_at-none : (fields : List (List ℕ)) (i : ℕ) → i < length fields → field_at fields i ≡ None → ⊥
unfolding field_at
field_at-none [] i h e = omega arith
field_at-none (f ∷ fs) zero h e = Prim.cc
field_at-none (f ∷ fs) (suc i) h e = field_at-none fs i (omega arith) e
