-- The laws of intervals: what arithmetic on ends holds, and that narrower operands give narrower intervals.
use Rattle.std.proofs.Common.{◌≡◌, refl, ap, ◌∙◌, arith, ℤ, pos, ◌≤ℤ◌, ◌+ℤ◌, ◌-ℤ◌, ◌*ℤ◌, Bool, true, false, ◌&&◌}
use Rattle.std.specs.Int.{int_min, int_max}
use Rattle.std.specs.Int.RustNames.{int_div}
use Rattle.std.specs.Ordering.{int_eq}
use Rattle.std.proofs.lemmas.Int.{ints, clamps}
use Rattle.cal_value.specs.declared.interval.Interval.{Interval}
use Rattle.cal_value.specs.declared.interval.Interval.TheVariants.{Never, Range}
use Rattle.cal_value.specs.Interval.{Holds, IsProper, IsWithin, HoldsResults, IsLeastOfTwo, IsLeastOfFour, hull, at_ends, negated, excludes_zero, is_in_range, is_number}
use Rattle.cal_value.proofs.Corners.{sum-corners, difference-corners, product-corners, quotient-corners, OnOneSide, not_zero}
use Rattle.cal_value.proofs.TypeLemmas.{and-both}

-- ---- within

pub within-holds : (i j : Interval) (z : ℤ) → IsWithin i j → Holds i z → Holds j z
within-holds Never j z h k = absurd k
within-holds (Range a b) Never z h k = absurd h.0
within-holds (Range a b) (Range c d) z h k = (omega (arith, ints, h.0.0, k.0), omega (arith, ints, h.1.1, k.1))

pub within-refl : (i : Interval) → IsProper i → IsWithin i i
within-refl Never p = tt
within-refl (Range a b) p = ((omega (arith, ints), p), (p, omega (arith, ints)))

pub within-trans : (i j k : Interval) → IsWithin i j → IsWithin j k → IsWithin i k
within-trans Never j k h l = tt
within-trans (Range a b) j k h l = (within-holds j k a l h.0, within-holds j k b l h.1)

-- ---- the least interval of four numbers

pub hull-least : (p q r s : ℤ) → IsLeastOfFour p q r s (hull p q r s)
hull-least p q r s = record {
  first = (omega (arith, ints, clamps), omega (arith, ints, clamps));
  second = (omega (arith, ints, clamps), omega (arith, ints, clamps));
  third = (omega (arith, ints, clamps), omega (arith, ints, clamps));
  fourth = (omega (arith, ints, clamps), omega (arith, ints, clamps));
  least = least;
}
  where
    least : (k : Interval) → Holds k p → Holds k q → Holds k r → Holds k s → IsWithin (hull p q r s) k
    least Never h i j l = absurd h
    least (Range lo hi) h i j l = (
      (omega (arith, ints, clamps, h.0, i.0, j.0, l.0), omega (arith, ints, clamps, h.1, i.1, j.1, l.1)),
      (omega (arith, ints, clamps, h.0, i.0, j.0, l.0), omega (arith, ints, clamps, h.1, i.1, j.1, l.1)),
    )

pub negated-least : (lo hi : ℤ) → IsLeastOfTwo (pos 0 -ℤ lo) (pos 0 -ℤ hi) (negated (Range lo hi))
negated-least lo hi = record {
  first = (omega (arith, ints, clamps), omega (arith, ints, clamps));
  second = (omega (arith, ints, clamps), omega (arith, ints, clamps));
  least = least;
}
  where
    least : (k : Interval) → Holds k (pos 0 -ℤ lo) → Holds k (pos 0 -ℤ hi) → IsWithin (negated (Range lo hi)) k
    least Never h i = absurd h
    least (Range a b) h i = (
      (omega (arith, ints, clamps, h.0, i.0), omega (arith, ints, clamps, h.1, i.1)),
      (omega (arith, ints, clamps, h.0, i.0), omega (arith, ints, clamps, h.1, i.1)),
    )

-- of ends in order
pub negated-ends : (lo hi : ℤ) → lo ≤ℤ hi → negated (Range lo hi) ≡ Range (pos 0 -ℤ hi) (pos 0 -ℤ lo)
negated-ends lo hi h =
    let p : int_min (pos 0 -ℤ lo) (pos 0 -ℤ hi) ≡ pos 0 -ℤ hi = omega (arith, ints, clamps, h) in
    let q : int_max (pos 0 -ℤ lo) (pos 0 -ℤ hi) ≡ pos 0 -ℤ lo = omega (arith, ints, clamps, h) in
    ap (λ z. Range z (int_max (pos 0 -ℤ lo) (pos 0 -ℤ hi))) p ∙ ap (Range (pos 0 -ℤ hi)) q

-- ---- the results of arithmetic are in the interval that the ends give

abbrev Corner : (ℤ → ℤ → ℤ) → Type 0
Corner f = (a b c d x y : ℤ) → a ≤ℤ x → x ≤ℤ b → c ≤ℤ y → y ≤ℤ d → Holds (hull (f a c) (f a d) (f b c) (f b d)) (f x y)

pub at_ends-holds : (f : ℤ → ℤ → ℤ) → Corner f → (i j : Interval) → HoldsResults f i j (at_ends f i j)
at_ends-holds f corner Never j x y h k = absurd h
at_ends-holds f corner (Range a b) Never x y h k = absurd k
at_ends-holds f corner (Range a b) (Range c d) x y h k = corner a b c d x y h.0 h.1 k.0 k.1

pub sum-holds : (i j : Interval) → HoldsResults ◌+ℤ◌ i j (at_ends ◌+ℤ◌ i j)
sum-holds = at_ends-holds ◌+ℤ◌ sum-corners

pub difference-holds : (i j : Interval) → HoldsResults ◌-ℤ◌ i j (at_ends ◌-ℤ◌ i j)
difference-holds = at_ends-holds ◌-ℤ◌ difference-corners

pub product-holds : (i j : Interval) → HoldsResults ◌*ℤ◌ i j (at_ends ◌*ℤ◌ i j)
product-holds = at_ends-holds ◌*ℤ◌ product-corners

one_side : (c d : ℤ) → excludes_zero (Range c d) ≡ true → OnOneSide c d
one_side c d e = grind (arith, ints)

pub quotient-holds : (i j : Interval) → excludes_zero j ≡ true → HoldsResults int_div i j (at_ends int_div i j)
quotient-holds Never j s x y h k = absurd h
quotient-holds (Range a b) Never s x y h k = absurd k
quotient-holds (Range a b) (Range c d) s x y h k = quotient-corners a b c d x y (one_side c d s) h.0 h.1 k.0 k.1

pub negation-holds : (i : Interval) (x : ℤ) → Holds i x → Holds (negated i) (pos 0 -ℤ x)
negation-holds Never x h = absurd h
negation-holds (Range a b) x h = (omega (arith, ints, clamps, h.0, h.1), omega (arith, ints, clamps, h.0, h.1))

-- a divisor of such an interval isn't 0
pub divisor_not_zero : (j : Interval) (y : ℤ) → excludes_zero j ≡ true → Holds j y → int_eq y (pos 0) ≡ false
divisor_not_zero Never y s k = absurd k
divisor_not_zero (Range c d) y s k = by (int_eq y (pos 0)) refl
  where
    by : (t : Bool) → int_eq y (pos 0) ≡ t → t ≡ false
    by false e = refl
    by true e = absurd (not_zero c d y (one_side c d s) k.0 k.1 (grind (arith, ints)))

-- ---- narrower operands

-- of any operation whose results at numbers of k and l are in the interval of their ends
within-at_ends : (f : ℤ → ℤ → ℤ) (i j k l : Interval) → HoldsResults f k l (at_ends f k l) → IsWithin i k → IsWithin j l → IsWithin (at_ends f i j) (at_ends f k l)
within-at_ends f Never j k l r h g = tt
within-at_ends f (Range a b) Never k l r h g = tt
within-at_ends f (Range a b) (Range c d) k l r h g =
    (hull-least (f a c) (f a d) (f b c) (f b d)).least (at_ends f k l) (r a c h.0 g.0) (r a d h.0 g.1) (r b c h.1 g.0) (r b d h.1 g.1)

pub within-sum : (i j k l : Interval) → IsWithin i k → IsWithin j l → IsWithin (at_ends ◌+ℤ◌ i j) (at_ends ◌+ℤ◌ k l)
within-sum i j k l = within-at_ends ◌+ℤ◌ i j k l (sum-holds k l)

pub within-difference : (i j k l : Interval) → IsWithin i k → IsWithin j l → IsWithin (at_ends ◌-ℤ◌ i j) (at_ends ◌-ℤ◌ k l)
within-difference i j k l = within-at_ends ◌-ℤ◌ i j k l (difference-holds k l)

pub within-product : (i j k l : Interval) → IsWithin i k → IsWithin j l → IsWithin (at_ends ◌*ℤ◌ i j) (at_ends ◌*ℤ◌ k l)
within-product i j k l = within-at_ends ◌*ℤ◌ i j k l (product-holds k l)

pub within-quotient : (i j k l : Interval) → excludes_zero l ≡ true → IsWithin i k → IsWithin j l → IsWithin (at_ends int_div i j) (at_ends int_div k l)
within-quotient i j k l s = within-at_ends int_div i j k l (quotient-holds k l s)

pub within-negation : (i k : Interval) → IsWithin i k → IsWithin (negated i) (negated k)
within-negation Never k h = tt
within-negation (Range a b) k h = (negated-least a b).least (negated k) (negation-holds k a h.0) (negation-holds k b h.1)

apart : (c d e f : ℤ) → OnOneSide c d → c ≤ℤ e → e ≤ℤ d → c ≤ℤ f → f ≤ℤ d → excludes_zero (Range e f) ≡ true
apart c d e f h p q r s = grind (arith, ints)

pub within-excludes_zero : (j l : Interval) → IsWithin j l → excludes_zero l ≡ true → excludes_zero j ≡ true
within-excludes_zero Never l h s = refl
within-excludes_zero (Range e f) Never h s = absurd h.0
within-excludes_zero (Range e f) (Range c d) h s = apart c d e f (one_side c d s) h.0.0 h.0.1 h.1.0 h.1.1

numbers : (c d e : ℤ) → is_number c ≡ true → is_number d ≡ true → c ≤ℤ e → e ≤ℤ d → is_number e ≡ true
numbers c d e p q h k = grind (arith, ints)

both-true : (p q : Bool) → p ≡ true → q ≡ true → (p && q) ≡ true
both-true p q e f = cc

pub within-in_range : (i k : Interval) → IsWithin i k → is_in_range k ≡ true → is_in_range i ≡ true
within-in_range Never k h r = refl
within-in_range (Range e f) Never h r = absurd h.0
within-in_range (Range e f) (Range c d) h r =
    let p = and-both (is_number c) (is_number d) r in
    both-true (is_number e) (is_number f) (numbers c d e p.0 p.1 h.0.0 h.0.1) (numbers c d f p.0 p.1 h.1.0 h.1.1)

-- ---- ends in order

pub proper-at_ends : (f : ℤ → ℤ → ℤ) (i j : Interval) → IsProper (at_ends f i j)
proper-at_ends f Never j = tt
proper-at_ends f (Range a b) Never = tt
proper-at_ends f (Range a b) (Range c d) = proper (f a c) (f a d) (f b c) (f b d)
  where
    proper : (p q r s : ℤ) → IsProper (hull p q r s)
    proper p q r s = omega (arith, ints, clamps)

pub proper-negated : (i : Interval) → IsProper (negated i)
proper-negated Never = tt
proper-negated (Range a b) = omega (arith, ints, clamps)

pub ruleset interval_laws = (sum-holds, difference-holds, product-holds, quotient-holds, negation-holds, hull-least, within-holds, within-refl, within-trans)

pub ruleset negation_laws = (negated-least, negated-ends)

pub ruleset narrower_laws = (within-sum, within-difference, within-product, within-quotient, within-excludes_zero, within-negation, within-in_range)
