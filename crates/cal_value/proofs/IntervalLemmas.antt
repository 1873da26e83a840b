use Rattle.std.proofs.Common.{◌≡◌, arith, refl, ap, ◌∙◌, sym, ℤ, pos, negsuc, ◌≤ℤ◌, ◌<ℤ◌, neg_ℤ, ◌-ℤ◌, Bool, true, false, cond, ◌&&◌, int_lt, Option, Some, None}
use Rattle.std.specs.Int.{int_min, int_max, saturate_signed, w128, cast_signed, cast_unsigned}
use Rattle.std.specs.Int.RustNames.{FitsSigned}
use Rattle.std.proofs.lemmas.Int.{ints, clamps, to_z-of_z}
use Rattle.cal_value.specs.Interval.{limit, cut, hull, at_ends, negated, cut_ends, is_number, meet_of, Holds, IsProper, IsWithin, IsMeet}
use Rattle.cal_value.specs.Types.{number_type, integer_type}
use Rattle.cal_value.specs.declared.kind.SqlType.{SqlType}
use Rattle.cal_value.specs.declared.interval.Interval.{Interval}
use Rattle.cal_value.specs.declared.interval.Interval.TheVariants.{Never, Range}

-- a choice between two numbers goes through any function of them that keeps their order
clip-min : (l h x y : ℤ) → l ≤ℤ h → int_max l (int_min (int_min x y) h) ≡ int_min (int_max l (int_min x h)) (int_max l (int_min y h))
clip-min l h x y le = omega (arith, ints, clamps)

clip-max : (l h x y : ℤ) → l ≤ℤ h → int_max l (int_min (int_max x y) h) ≡ int_max (int_max l (int_min x h)) (int_max l (int_min y h))
clip-max l h x y le = omega (arith, ints, clamps)

sides : neg_ℤ (pos limit) ≤ℤ pos limit
sides = record { le = tt }

pub cut-int_min : (x y : ℤ) → cut (int_min x y) ≡ int_min (cut x) (cut y)
cut-int_min x y = clip-min (neg_ℤ (pos limit)) (pos limit) x y sides

pub cut-int_max : (x y : ℤ) → cut (int_max x y) ≡ int_max (cut x) (cut y)
cut-int_max x y = clip-max (neg_ℤ (pos limit)) (pos limit) x y sides

pub cut-saturate : (z : ℤ) → cut (saturate_signed w128 z) ≡ cut z
cut-saturate (pos n) = omega (arith, ints, clamps)
cut-saturate (negsuc n) = omega (arith, ints, clamps)

pub hull-cut : (p q r s : ℤ) → hull (cut p) (cut q) (cut r) (cut s) ≡ cut_ends (hull p q r s)
hull-cut p q r s =
    let lo : cut (int_min (int_min p q) (int_min r s)) ≡ int_min (int_min (cut p) (cut q)) (int_min (cut r) (cut s)) =
    cut-int_min (int_min p q) (int_min r s) ∙ ap (λ z. int_min z (cut (int_min r s))) (cut-int_min p q) ∙ ap (int_min (int_min (cut p) (cut q))) (cut-int_min r s) in
    let hi : cut (int_max (int_max p q) (int_max r s)) ≡ int_max (int_max (cut p) (cut q)) (int_max (cut r) (cut s)) =
    cut-int_max (int_max p q) (int_max r s) ∙ ap (λ z. int_max z (cut (int_max r s))) (cut-int_max p q) ∙ ap (int_max (int_max (cut p) (cut q))) (cut-int_max r s) in
    sym (ap (λ z. Range z (cut (int_max (int_max p q) (int_max r s)))) lo ∙ ap (Range (int_min (int_min (cut p) (cut q)) (int_min (cut r) (cut s)))) hi)

-- a number that fits is not cut, and one that does not is cut to one that does not
pub cut-inside : (z : ℤ) → is_number z ≡ true → cut z ≡ z
cut-inside z h = grind (arith, ints, clamps)

pub is_number-cut : (z : ℤ) → is_number (cut z) ≡ is_number z
is_number-cut z = grind (arith, ints, clamps)

pub ruleset cut_rules = (cut-saturate)

-- 0 minus what an interval holds
pub difference-negated : (i : Interval) → at_ends ◌-ℤ◌ (Range (pos 0) (pos 0)) i ≡ negated i
difference-negated Never = refl
difference-negated (Range lo hi) =
    let p : int_min (int_min (pos 0 -ℤ lo) (pos 0 -ℤ hi)) (int_min (pos 0 -ℤ lo) (pos 0 -ℤ hi)) ≡ int_min (pos 0 -ℤ lo) (pos 0 -ℤ hi) = omega (arith, ints, clamps) in
    let q : int_max (int_max (pos 0 -ℤ lo) (pos 0 -ℤ hi)) (int_max (pos 0 -ℤ lo) (pos 0 -ℤ hi)) ≡ int_max (pos 0 -ℤ lo) (pos 0 -ℤ hi) = omega (arith, ints, clamps) in
    ap (λ z. Range z (int_max (int_max (pos 0 -ℤ lo) (pos 0 -ℤ hi)) (int_max (pos 0 -ℤ lo) (pos 0 -ℤ hi)))) p ∙ ap (Range (int_min (pos 0 -ℤ lo) (pos 0 -ℤ hi))) q

pub ruleset negation_rules = (difference-negated)

-- a number that goes to the bits of an `i128` and is read again, as a call passes it
abbrev pub read : ℤ → ℤ
read z = cast_signed w128 (cast_unsigned w128 z)

-- what four calls at the corners and `hull_of` give together
pub made_at_corners : (f : ℤ → ℤ → ℤ) (a b c d p q r s : ℤ) (made : Interval)
    → FitsSigned w128 a → FitsSigned w128 b → FitsSigned w128 c → FitsSigned w128 d
    → FitsSigned w128 p → FitsSigned w128 q → FitsSigned w128 r → FitsSigned w128 s
    → p ≡ cut (f (read a) (read c)) → q ≡ cut (f (read a) (read d)) → r ≡ cut (f (read b) (read c)) → s ≡ cut (f (read b) (read d))
    → made ≡ hull (read p) (read q) (read r) (read s)
    → made ≡ cut_ends (hull (f a c) (f a d) (f b c) (f b d))
made_at_corners f a b c d p q r s made fa fb fc fd fp fq fr fs ep eq er es em =
    let ep' : p ≡ cut (f a c) = simp to_z-of_z at ep in
    let eq' : q ≡ cut (f a d) = simp to_z-of_z at eq in
    let er' : r ≡ cut (f b c) = simp to_z-of_z at er in
    let es' : s ≡ cut (f b d) = simp to_z-of_z at es in
    let em' : made ≡ hull p q r s = simp to_z-of_z at em in
    em' ∙ rw (ep', eq', er', es') (hull-cut (f a c) (f a d) (f b c) (f b d))

-- ---- the meet

apart : (a b c d : ℤ) → int_lt (int_min b d) (int_max a c) ≡ true → int_min b d <ℤ int_max a c
apart a b c d e = grind (arith, ints)

joined : (a b c d : ℤ) → int_lt (int_min b d) (int_max a c) ≡ false → int_max a c ≤ℤ int_min b d
joined a b c d e = grind (arith, ints)

-- it is within both, and whatever is within both is within it
pub meet_of-IsMeet : (i j : Interval) → IsMeet i j (meet_of i j)
meet_of-IsMeet Never j = record { first = tt; second = tt; greatest = λ k h f. h }
meet_of-IsMeet (Range a b) Never = record { first = tt; second = tt; greatest = λ k h f. f }
meet_of-IsMeet (Range a b) (Range c d) = by (int_lt (int_min b d) (int_max a c)) refl
  where
    none : int_min b d <ℤ int_max a c → (k : Interval) → IsWithin k (Range a b) → IsWithin k (Range c d) → IsWithin k Never
    none e Never h f = tt
    none e (Range x y) h f = absurd (omega (arith, ints, clamps, e, h.0.0, h.0.1, f.0.0, f.0.1))

    some : int_max a c ≤ℤ int_min b d → (k : Interval) → IsWithin k (Range a b) → IsWithin k (Range c d) → IsWithin k (Range (int_max a c) (int_min b d))
    some e Never h f = tt
    some e (Range x y) h f = ((omega (arith, ints, clamps, h.0.0, f.0.0), omega (arith, ints, clamps, h.0.1, f.0.1)), (omega (arith, ints, clamps, h.1.0, f.1.0), omega (arith, ints, clamps, h.1.1, f.1.1)))

    by : (t : Bool) → int_lt (int_min b d) (int_max a c) ≡ t → IsMeet (Range a b) (Range c d) (cond t Never (Range (int_max a c) (int_min b d)))
    by true e = record { first = tt; second = tt; greatest = none (apart a b c d e) }
    by false e =
        let le = joined a b c d e in
        record {
          first = ((omega (arith, ints, clamps, le), omega (arith, ints, clamps, le)), (omega (arith, ints, clamps, le), omega (arith, ints, clamps, le)));
          second = ((omega (arith, ints, clamps, le), omega (arith, ints, clamps, le)), (omega (arith, ints, clamps, le), omega (arith, ints, clamps, le)));
          greatest = some le;
        }

-- ---- an interval that is cut is in range where the interval is, and is then the interval

pub number_type-cut_ends : (nullable : Bool) (i : Interval) → number_type nullable (cut_ends i) ≡ number_type nullable i
number_type-cut_ends nullable Never = refl
number_type-cut_ends nullable (Range lo hi) = rw (is_number-cut lo, is_number-cut hi) (by (is_number lo) (is_number hi) refl refl)
  where
    made : ℤ → ℤ → Option SqlType
    made x y = Some (integer_type nullable (Range x y))

    by : (p q : Bool) → is_number lo ≡ p → is_number hi ≡ q → cond (p && q) (made (cut lo) (cut hi)) None ≡ cond (p && q) (made lo hi) None
    by true true e f = ap (λ z. made z (cut hi)) (cut-inside lo e) ∙ ap (made lo) (cut-inside hi f)
    by true false e f = refl
    by false q e f = refl

pub meet_of-holds : (i j : Interval) (z : ℤ) → Holds i z → Holds j z → Holds (meet_of i j) z
meet_of-holds Never j z h k = h
meet_of-holds (Range a b) Never z h k = k
meet_of-holds (Range a b) (Range c d) z h k = by (int_lt (int_min b d) (int_max a c)) refl
  where
    by : (t : Bool) → int_lt (int_min b d) (int_max a c) ≡ t → Holds (cond t Never (Range (int_max a c) (int_min b d))) z
    by true e = absurd (let p = apart a b c d e in omega (arith, ints, clamps, p, h.0, h.1, k.0, k.1))
    by false e = (omega (arith, ints, clamps, h.0, k.0), omega (arith, ints, clamps, h.1, k.1))

pub proper-meet_of : (i j : Interval) → IsProper (meet_of i j)
proper-meet_of Never j = tt
proper-meet_of (Range a b) Never = tt
proper-meet_of (Range a b) (Range c d) = by (int_lt (int_min b d) (int_max a c)) refl
  where
    by : (t : Bool) → int_lt (int_min b d) (int_max a c) ≡ t → IsProper (cond t Never (Range (int_max a c) (int_min b d)))
    by true e = tt
    by false e = joined a b c d e
