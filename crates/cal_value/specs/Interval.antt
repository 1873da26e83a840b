-- Intervals of whole numbers, and arithmetic on their ends.
use Rattle.std.specs.Prelude.{ℕ, ℤ, pos, neg_ℤ, nat_abs, ◌-ℤ◌, ◌≤ℤ◌, Bool, true, false, int_le, ◌&&◌, ◌||◌, int_lt, if◌then◌else◌, ⊤}
use Rattle.std.specs.Int.{int_min, int_max}
use Rattle.cal_value.specs.declared.interval.Interval.{Interval}
use Rattle.cal_value.specs.declared.interval.Interval.TheVariants.{Never, Range}
use Rattle.cal_value.specs.declared.limits.TheConstants.{NUMBER_LIMIT}

-- 10^38: a number of SQL is smaller in size
abbrev pub limit : ℕ
limit = nat_abs NUMBER_LIMIT

-- the number is in the interval
abbrev pub Holds : Interval → ℤ → Type 0
Holds Never z = ⊥
Holds (Range lo hi) z = (lo ≤ℤ z) × (z ≤ℤ hi)

-- the same as a test
abbrev pub holds : Interval → ℤ → Bool
holds Never z = false
holds (Range lo hi) z = int_le lo z && int_le z hi

-- the lower end isn't above the upper one
abbrev pub IsProper : Interval → Type 0
IsProper Never = ⊤
IsProper (Range lo hi) = lo ≤ℤ hi

-- both ends of the first are in the second
abbrev pub IsWithin : Interval → Interval → Type 0
IsWithin Never j = ⊤
IsWithin (Range lo hi) j = Holds j lo × Holds j hi

-- a number of SQL: -(10^38-1) .. 10^38-1
abbrev pub is_number : ℤ → Bool
is_number z = int_lt (neg_ℤ (pos limit)) z && int_lt z (pos limit)

abbrev pub is_in_range : Interval → Bool
is_in_range Never = true
is_in_range (Range lo hi) = is_number lo && is_number hi

-- both ends are above 0, or both below
abbrev pub excludes_zero : Interval → Bool
excludes_zero Never = true
excludes_zero (Range lo hi) =
    (int_lt (pos 0) lo && int_lt (pos 0) hi) || (int_lt lo (pos 0) && int_lt hi (pos 0))

-- it holds the two, and is within each interval that holds them
pub record IsLeastOfTwo (p q : ℤ) (i : Interval) : Type 0 where
  pub first : Holds i p
  pub second : Holds i q
  pub least : (k : Interval) → Holds k p → Holds k q → IsWithin i k

-- it holds the four, and is within each interval that holds them
pub record IsLeastOfFour (p q r s : ℤ) (i : Interval) : Type 0 where
  pub first : Holds i p
  pub second : Holds i q
  pub third : Holds i r
  pub fourth : Holds i s
  pub least : (k : Interval) → Holds k p → Holds k q → Holds k r → Holds k s → IsWithin i k

-- it holds what the operation gives for each number of the one and each of the other
abbrev pub HoldsResults : (ℤ → ℤ → ℤ) → Interval → Interval → Interval → Type 0
HoldsResults f i j k = (x y : ℤ) → Holds i x → Holds j y → Holds k (f x y)

-- the least interval that holds the four
abbrev pub hull : ℤ → ℤ → ℤ → ℤ → Interval
hull p q r s = Range (int_min (int_min p q) (int_min r s)) (int_max (int_max p q) (int_max r s))

-- the least interval that holds the results at the ends
abbrev pub at_ends : (ℤ → ℤ → ℤ) → Interval → Interval → Interval
at_ends f Never j = Never
at_ends f (Range a b) Never = Never
at_ends f (Range a b) (Range c d) = hull (f a c) (f a d) (f b c) (f b d)

-- the least interval that holds the negations of both ends
abbrev pub negated : Interval → Interval
negated Never = Never
negated (Range lo hi) =
    Range (int_min (pos 0 -ℤ lo) (pos 0 -ℤ hi)) (int_max (pos 0 -ℤ lo) (pos 0 -ℤ hi))

-- what both hold
abbrev pub meet_of : Interval → Interval → Interval
meet_of Never j = Never
meet_of (Range a b) Never = Never
meet_of (Range a b) (Range c d) =
    if int_lt (int_min b d) (int_max a c) then Never else Range (int_max a c) (int_min b d)

-- it is within both, and whatever is within both is within it
pub record IsMeet (i j m : Interval) : Type 0 where
  pub first : IsWithin m i
  pub second : IsWithin m j
  pub greatest : (k : Interval) → IsWithin k i → IsWithin k j → IsWithin k m

-- the number of the range -10^38 .. 10^38 that is nearest
abbrev pub cut : ℤ → ℤ
cut z = int_max (neg_ℤ (pos limit)) (int_min z (pos limit))

abbrev pub cut_ends : Interval → Interval
cut_ends Never = Never
cut_ends (Range lo hi) = Range (cut lo) (cut hi)
