-- What a type holds, and which of two types is the narrower one.
use Rattle.std.specs.Prelude.{◌≡◌, pos, Bool, true, false, ◌&&◌, Option, Some, None, List, if◌then◌else◌}
use Rattle.std.specs.List.{AllZip}
use Rattle.cal_value.specs.declared.interval.Interval.{Interval}
use Rattle.cal_value.specs.declared.interval.Interval.TheVariants.{Range}
use Rattle.cal_value.specs.declared.kind.Kind.{Kind}
use Rattle.cal_value.specs.declared.kind.Kind.TheVariants.{Boolean, Integer, Text as TextKind}
use Rattle.cal_value.specs.declared.kind.SqlType.{SqlType}
use Rattle.cal_value.specs.declared.value.Value.{Value}
use Rattle.cal_value.specs.declared.value.Value.TheVariants.{Null, Bool as BoolValue, Int, Text}
use Rattle.cal_value.specs.Interval.{Holds, IsProper, IsWithin, is_in_range, meet_of}

-- the interval of a kind that has none
abbrev pub blank : Interval
blank = Range (pos 0) (pos 0)

abbrev pub boolean_type : Bool → SqlType
boolean_type nullable = record { kind = Boolean; nullable = nullable; interval = blank }

abbrev pub integer_type : Bool → Interval → SqlType
integer_type nullable i = record { kind = Integer; nullable = nullable; interval = i }

abbrev pub text_type : Bool → SqlType
text_type nullable = record { kind = TextKind; nullable = nullable; interval = blank }

-- a type of whole numbers, where its ends are numbers of SQL
abbrev pub number_type : Bool → Interval → Option SqlType
number_type nullable i = if is_in_range i then Some (integer_type nullable i) else None

abbrev pub same_kind : Kind → Kind → Bool
same_kind Boolean Boolean = true
same_kind Integer Integer = true
same_kind TextKind TextKind = true
same_kind k l = false

abbrev pub is_integer : SqlType → Bool
is_integer t = same_kind t.kind Integer

abbrev pub is_boolean : SqlType → Bool
is_boolean t = same_kind t.kind Boolean

-- the ends of an interval of numbers stand in order
abbrev pub IsProperType : SqlType → Type 0
IsProperType t = t.kind ≡ Integer → IsProper t.interval

-- the type is true of the value: its kind, within the interval, and NULL only where the type is
-- nullable
abbrev pub IsOfType : Value → SqlType → Type 0
IsOfType Null t = t.nullable ≡ true
IsOfType (BoolValue b) t = t.kind ≡ Boolean
IsOfType (Int n) t = (t.kind ≡ Integer) × Holds t.interval n
IsOfType (Text s) t = t.kind ≡ TextKind

-- so many values, each of the type in its place
abbrev pub HasTypes : List Value → List SqlType → Type 0
HasTypes row types = AllZip IsOfType row types

-- one kind, nullable only where the other is, and for numbers an interval within the other's
pub record IsAtMostAsWide (s t : SqlType) : Type 0 where
  pub kind : s.kind ≡ t.kind
  pub nullable : s.nullable ≡ true → t.nullable ≡ true
  pub interval : s.kind ≡ Integer → IsWithin s.interval t.interval

-- so many types, each at most as wide as the one in its place
abbrev pub AreAtMostAsWide : List SqlType → List SqlType → Type 0
AreAtMostAsWide types others = AllZip IsAtMostAsWide types others

-- what both types hold, of two types of one kind
abbrev pub met_type : SqlType → SqlType → SqlType
met_type s t = record {
  kind = s.kind;
  nullable = s.nullable && t.nullable;
  interval = meet_of s.interval t.interval;
}

-- it is at most as wide as both, and whatever is so is at most as wide as it
pub record IsTypeMeet (s t m : SqlType) : Type 0 where
  pub first : IsAtMostAsWide m s
  pub second : IsAtMostAsWide m t
  pub greatest : (u : SqlType) → IsAtMostAsWide u s → IsAtMostAsWide u t → IsAtMostAsWide u m
