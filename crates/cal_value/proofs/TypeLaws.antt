-- The laws of types: what a narrower type is true of, and what both of two types are true of.
use Rattle.std.proofs.Common.{◌≡◌, refl, sym, ◌∙◌, Bool, true, false, cond, ◌&&◌, List, [], ◌∷◌, Some, None}
use Rattle.cal_value.specs.declared.interval.Interval.{Interval}
use Rattle.cal_value.specs.declared.kind.SqlType.{SqlType}
use Rattle.cal_value.specs.declared.value.Value.{Value}
use Rattle.cal_value.specs.declared.value.Value.TheVariants.{Null, Bool as BoolValue, Int, Text}
use Rattle.cal_value.specs.Interval.{IsWithin, meet_of, is_in_range}
use Rattle.cal_value.specs.Narrower.{StillTyped}
use Rattle.cal_value.specs.Types.{IsOfType, HasTypes, IsAtMostAsWide, AreAtMostAsWide, IsProperType, met_type, number_type, integer_type}
use Rattle.cal_value.proofs.IntervalLaws.{within-holds, within-refl, within-trans, within-in_range}
use Rattle.cal_value.proofs.IntervalLemmas.{meet_of-holds, meet_of-IsMeet}

-- ---- wider types

pub wider-typed : (v : Value) (s t : SqlType) → IsAtMostAsWide s t → IsOfType v s → IsOfType v t
wider-typed Null s t w h = w.nullable h
wider-typed (BoolValue b) s t w h = sym w.kind ∙ h
wider-typed (Int n) s t w h = (sym w.kind ∙ h.0, within-holds s.interval t.interval n (w.interval h.0) h.1)
wider-typed (Text x) s t w h = sym w.kind ∙ h

pub wider-has_types : (row : List Value) (ss ts : List SqlType) → AreAtMostAsWide ss ts → HasTypes row ss → HasTypes row ts
wider-has_types [] [] [] w h = tt
wider-has_types [] [] (t ∷ ts) w h = absurd w
wider-has_types [] (s ∷ ss) ts w h = absurd h
wider-has_types (v ∷ row) [] ts w h = absurd h
wider-has_types (v ∷ row) (s ∷ ss) [] w h = absurd w
wider-has_types (v ∷ row) (s ∷ ss) (t ∷ ts) w h = (wider-typed v s t w.0 h.0, wider-has_types row ss ts w.1 h.1)

pub wide-refl : (t : SqlType) → IsProperType t → IsAtMostAsWide t t
wide-refl t p = record { kind = refl; nullable = λ h. h; interval = λ k. within-refl t.interval (p k) }

pub wide-trans : (s t u : SqlType) → IsAtMostAsWide s t → IsAtMostAsWide t u → IsAtMostAsWide s u
wide-trans s t u w x = record {
  kind = w.kind ∙ x.kind;
  nullable = λ h. x.nullable (w.nullable h);
  interval = λ k. within-trans s.interval t.interval u.interval (w.interval k) (x.interval (sym w.kind ∙ k));
}

pub are-wide-trans : (ss ts us : List SqlType) → AreAtMostAsWide ss ts → AreAtMostAsWide ts us → AreAtMostAsWide ss us
are-wide-trans [] [] us w x = x
are-wide-trans [] (t ∷ ts) us w x = absurd w
are-wide-trans (s ∷ ss) [] us w x = absurd w
are-wide-trans (s ∷ ss) (t ∷ ts) [] w x = absurd x
are-wide-trans (s ∷ ss) (t ∷ ts) (u ∷ us) w x = (wide-trans s t u w.0 x.0, are-wide-trans ss ts us w.1 x.1)

-- ---- a narrower interval of numbers is still a type

pub number_type-narrower : (m n : Bool) (i j : Interval) → (m ≡ true → n ≡ true) → IsWithin i j → StillTyped (number_type m i) (number_type n j)
number_type-narrower m n i j null h = by (is_in_range j) (is_in_range i) refl refl
  where
    by : (r q : Bool) → is_in_range j ≡ r → is_in_range i ≡ q → StillTyped (cond q (Some (integer_type m i)) None) (cond r (Some (integer_type n j)) None)
    by false q e f = tt
    by true true e f = record { kind = refl; nullable = null; interval = λ k. h }
    by true false e f = absurd (cc (within-in_range i j h e))

-- ---- the meet

both-null : (p q : Bool) → p ≡ true → q ≡ true → (p && q) ≡ true
both-null p q e f = cc

pub met-typed : (v : Value) (s t : SqlType) → IsOfType v s → IsOfType v t → IsOfType v (met_type s t)
met-typed Null s t h k = both-null s.nullable t.nullable h k
met-typed (BoolValue b) s t h k = h
met-typed (Int n) s t h k = (h.0, meet_of-holds s.interval t.interval n h.1 k.1)
met-typed (Text x) s t h k = h

-- a value of the meet is one of each
both : (p q : Bool) → (p && q) ≡ true → (p ≡ true) × (q ≡ true)
both true q e = (refl, e)
both false q e = absurd (cc)

pub met-first : (v : Value) (s t : SqlType) → IsOfType v (met_type s t) → IsOfType v s
met-first Null s t h = (both s.nullable t.nullable h).0
met-first (BoolValue b) s t h = h
met-first (Int n) s t h = (h.0, within-holds (meet_of s.interval t.interval) s.interval n ((meet_of-IsMeet s.interval t.interval).first) h.1)
met-first (Text x) s t h = h

pub met-second : (v : Value) (s t : SqlType) → s.kind ≡ t.kind → IsOfType v (met_type s t) → IsOfType v t
met-second Null s t k h = (both s.nullable t.nullable h).1
met-second (BoolValue b) s t k h = sym k ∙ h
met-second (Int n) s t k h = (sym k ∙ h.0, within-holds (meet_of s.interval t.interval) t.interval n ((meet_of-IsMeet s.interval t.interval).second) h.1)
met-second (Text x) s t k h = sym k ∙ h

pub ruleset type_laws = (wider-typed, wider-has_types, wide-refl, wide-trans, met-typed, met-first, met-second)
