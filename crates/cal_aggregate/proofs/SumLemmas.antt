-- Sums of so many numbers of an interval.
use Rattle.std.proofs.Common.{◌≡◌, ℕ, zero, suc, ◌<◌, ◌≤◌, min, max, refl, ap, ◌∙◌, sym, subst, arith, ℤ, pos, negsuc, ◌≤ℤ◌, ◌<ℤ◌, neg_ℤ, ◌+ℤ◌, ◌*ℤ◌, Bool, true, false, ◌&&◌, ◌⊎◌, inl, inr}
use Rattle.std.specs.Int.{int_min, int_max}
use Rattle.std.proofs.Math.IntN.{*ℤ_comm, suc_ℤ-*ℤ, *ℤ-zero}
use Rattle.std.proofs.Math.Nat.{mul-le-mul_left}
use Rattle.std.proofs.lemmas.Bool.{cases_lt}
use Rattle.std.proofs.lemmas.Int.{ints, clamps}
use Rattle.cal_value.specs.declared.interval.Interval.{Interval}
use Rattle.cal_value.specs.declared.interval.Interval.TheVariants.{Never, Range}
use Rattle.cal_aggregate.specs.ResultType.{row_bound, counts, sums, with_zero}
use Rattle.cal_value.specs.Interval.{Holds, IsProper, IsWithin, is_number, is_in_range, limit}
use Rattle.cal_value.proofs.Corners.{times_up}

times_suc : (x : ℤ) (j : ℕ) → x *ℤ pos (suc j) ≡ (x *ℤ pos j) +ℤ x
times_suc x j = *ℤ_comm x (pos (suc j)) ∙ suc_ℤ-*ℤ (pos j) x ∙ ap (λ z. z +ℤ x) (*ℤ_comm (pos j) x)

times_one : (x : ℤ) → x *ℤ pos 1 ≡ x
times_one (pos a) = omega (arith, ints)
times_one (negsuc a) = omega (arith, ints)

and-true : (p q : Bool) → (p && q) ≡ true → (p ≡ true) × (q ≡ true)
and-true true q e = (refl, e)
and-true false q e = absurd (cc)

-- more of what isn't below 0 is more, and of what is below 0 is less
more_up : (a j m : ℕ) → j ≤ m → (pos a *ℤ pos j) ≤ℤ (pos a *ℤ pos m)
more_up a j m h = let p = mul-le-mul_left a h in omega (arith, ints)

more_down : (a j m : ℕ) → j ≤ m → (negsuc a *ℤ pos m) ≤ℤ (negsuc a *ℤ pos j)
more_down a j m h = let p = mul-le-mul_left (suc a) h in omega (arith, ints)

-- a number of SQL is smaller than 10^38 in size
number_low : (z : ℤ) → is_number z ≡ true → neg_ℤ (pos limit) <ℤ z
number_low z e = grind (arith, ints)

number_high : (z : ℤ) → is_number z ≡ true → z <ℤ pos limit
number_high z e = grind (arith, ints)

-- a number that isn't 0, taken 10^38 times, is past the range
too_low : (a m : ℕ) (z : ℤ) → m ≡ limit → z ≤ℤ (negsuc a *ℤ pos m) → neg_ℤ (pos limit) <ℤ z → ⊥
too_low a m z l h low =
    let h' : z ≤ℤ (negsuc a *ℤ pos limit) = subst (λ n. z ≤ℤ (negsuc a *ℤ pos n)) l h in
    omega (arith, ints, h', low)

too_high : (a m : ℕ) (z : ℤ) → m ≡ limit → (pos (suc a) *ℤ pos m) ≤ℤ z → z <ℤ pos limit → ⊥
too_high a m z l h high =
    let h' : (pos (suc a) *ℤ pos limit) ≤ℤ z = subst (λ n. (pos (suc a) *ℤ pos n) ≤ℤ z) l h in
    omega (arith, ints, h', high)

-- the bound on a sum of j numbers that are at least c, of at most m, or of any number where the end is in range
lower : (c s : ℤ) (j m : ℕ) → (c *ℤ pos j) ≤ℤ s → 1 ≤ j → (j ≤ m) ⊎ ((m ≡ limit) × (neg_ℤ (pos limit) <ℤ int_min c (c *ℤ pos m))) → int_min c (c *ℤ pos m) ≤ℤ s
lower (pos a) s j m h o k = let up = more_up a 1 j o in omega (arith, ints, clamps)
lower (negsuc a) s j m h o (inl l) = let down = more_down a j m l in omega (arith, ints, clamps)
lower (negsuc a) s j m h o (inr l) = absurd (too_low a m (int_min (negsuc a) (negsuc a *ℤ pos m)) l.0 (omega (arith, ints, clamps)) l.1)

upper : (d s : ℤ) (j m : ℕ) → s ≤ℤ (d *ℤ pos j) → 1 ≤ j → (j ≤ m) ⊎ ((m ≡ limit) × (int_max d (d *ℤ pos m) <ℤ pos limit)) → s ≤ℤ int_max d (d *ℤ pos m)
upper (negsuc b) s j m h o k = let down = more_down b 1 j o in omega (arith, ints, clamps)
upper (pos zero) s j m h o k = omega (arith, ints, clamps)
upper (pos (suc b)) s j m h o (inl l) = let up = more_up (suc b) j m l in omega (arith, ints, clamps)
upper (pos (suc b)) s j m h o (inr l) = absurd (too_high b m (int_max (pos (suc b)) (pos (suc b) *ℤ pos m)) l.0 (omega (arith, ints, clamps)) l.1)

-- ---- a sum of j numbers of an interval

abbrev pub IsSum : Interval → ℕ → ℤ → Type 0
IsSum Never j s = (j ≡ 0) × (s ≡ pos 0)
IsSum (Range lo hi) j s = ((lo *ℤ pos j) ≤ℤ s) × (s ≤ℤ (hi *ℤ pos j))

pub IsSum-none : (i : Interval) → IsSum i 0 (pos 0)
IsSum-none Never = (refl, refl)
IsSum-none (Range lo hi) = (omega (arith, ints, *ℤ-zero lo), omega (arith, ints, *ℤ-zero hi))

pub IsSum-more : (i : Interval) (j : ℕ) (s n : ℤ) → IsSum i j s → Holds i n → IsSum i (suc j) (s +ℤ n)
IsSum-more Never j s n h k = absurd k
IsSum-more (Range lo hi) j s n h k = (omega (arith, ints, times_suc lo j, h.0, k.0), omega (arith, ints, times_suc hi j, h.1, k.1))

-- so many numbers are promised by the bound, or the bound promises nothing
bounded : (rows n : ℕ) → (n < limit → rows ≤ n) → (rows ≤ max (row_bound n) 1) ⊎ (max (row_bound n) 1 ≡ limit)
bounded rows n h = by (cases_lt n limit)
  where
    by : (n < limit) ⊎ (limit ≤ n) → (rows ≤ max (row_bound n) 1) ⊎ (max (row_bound n) 1 ≡ limit)
    by (inl l) = let few = h l in inl (omega arith)
    by (inr l) = inr (omega arith)

-- the outer ends are in range
abbrev IsOuterInRange : Interval → Type 0
IsOuterInRange Never = Unit {0}
IsOuterInRange (Range lo hi) = (neg_ℤ (pos limit) <ℤ lo) × (hi <ℤ pos limit)

outer_in_range : (i : Interval) → is_in_range i ≡ true → IsOuterInRange i
outer_in_range Never r = tt
outer_in_range (Range lo hi) r = let p = and-true (is_number lo) (is_number hi) r in (number_low lo p.0, number_high hi p.1)

outer_without_zero : (i : Interval) → IsOuterInRange (with_zero i) → IsOuterInRange i
outer_without_zero Never r = tt
outer_without_zero (Range lo hi) r = (omega (arith, ints, clamps, r.0), omega (arith, ints, clamps, r.1))

outer-holds : (n rows j : ℕ) (i : Interval) (s : ℤ) → (n < limit → rows ≤ n) → 1 ≤ j → j ≤ rows → IsSum i j s → IsOuterInRange (sums n i) → Holds (sums n i) s
outer-holds n rows j Never s b o l h r = absurd (omega (arith, h.0))
outer-holds n rows j (Range lo hi) s b o l h r = by (bounded rows n b)
  where
    m : ℕ
    m = max (row_bound n) 1

    by : (rows ≤ m) ⊎ (m ≡ limit) → Holds (Range (int_min lo (lo *ℤ pos m)) (int_max hi (hi *ℤ pos m))) s
    by (inl few) = (lower lo s j m h.0 o (inl (omega (arith, few, l))), upper hi s j m h.1 o (inl (omega (arith, few, l))))
    by (inr none) = (lower lo s j m h.0 o (inr (none, r.0)), upper hi s j m h.1 o (inr (none, r.1)))

pub sums-holds : (n rows j : ℕ) (i : Interval) (s : ℤ) → (n < limit → rows ≤ n) → 1 ≤ j → j ≤ rows → IsSum i j s → is_in_range (sums n i) ≡ true → Holds (sums n i) s
sums-holds n rows j i s b o l h r = outer-holds n rows j i s b o l h (outer_in_range (sums n i) r)

-- ---- with 0 added

pub with_zero-holds : (i : Interval) (s : ℤ) → Holds i s → Holds (with_zero i) s
with_zero-holds Never s h = absurd h
with_zero-holds (Range lo hi) s h = (omega (arith, ints, clamps, h.0), omega (arith, ints, clamps, h.1))

pub with_zero-zero : (i : Interval) → Holds (with_zero i) (pos 0)
with_zero-zero Never = (omega (arith, ints), omega (arith, ints))
with_zero-zero (Range lo hi) = (omega (arith, ints, clamps), omega (arith, ints, clamps))

IsSum-zero : (i : Interval) (s : ℤ) → IsSum i 0 s → s ≡ pos 0
IsSum-zero Never s h = h.1
IsSum-zero (Range lo hi) s h = omega (arith, ints, h.0, h.1, *ℤ-zero lo, *ℤ-zero hi)

pub sums0-holds : (n rows j : ℕ) (i : Interval) (s : ℤ) → (n < limit → rows ≤ n) → j ≤ rows → IsSum i j s → is_in_range (with_zero (sums n i)) ≡ true → Holds (with_zero (sums n i)) s
sums0-holds n rows zero i s b l h r = subst (Holds (with_zero (sums n i))) (sym (IsSum-zero i s h)) (with_zero-zero (sums n i))
sums0-holds n rows (suc j) i s b l h r =
    with_zero-holds (sums n i) s (outer-holds n rows (suc j) i s b (omega arith) l h (outer_without_zero (sums n i) (outer_in_range (with_zero (sums n i)) r)))

-- ---- counts

pub counts-holds : (n rows j : ℕ) (s : ℤ) → (n < limit → rows ≤ n) → j ≤ rows → s ≡ pos j → is_in_range (counts n) ≡ true → Holds (counts n) s
counts-holds n rows j s b l e r = by (cases_lt n limit)
  where
    by : (n < limit) ⊎ (limit ≤ n) → Holds (Range (pos 0) (pos (min n limit))) s
    by (inl f) = let few = b f in (omega (arith, ints, e), omega (arith, ints, e))
    by (inr f) = absurd (let high = number_high (pos (min n limit)) (and-true (is_number (pos 0)) (is_number (pos (min n limit))) r).1 in omega (arith, ints, high))

-- ---- narrower intervals and bounds

taken : (c d x : ℤ) (k n : ℕ) → c ≤ℤ x → x ≤ℤ d → 1 ≤ k → k ≤ n → Holds (Range (int_min c (c *ℤ pos n)) (int_max d (d *ℤ pos n))) (x *ℤ pos k)
taken c d x k n h i o l = (lower c (x *ℤ pos k) k n (times_up c x k h) o (inl l), upper d (x *ℤ pos k) k n (times_up x d k i) o (inl l))

lesser-held : (i : Interval) (p q : ℤ) → Holds i p → Holds i q → Holds i (int_min p q)
lesser-held Never p q h k = absurd h
lesser-held (Range lo hi) p q h k = (omega (arith, ints, clamps, h.0, k.0), omega (arith, ints, clamps, h.1, k.1))

greater-held : (i : Interval) (p q : ℤ) → Holds i p → Holds i q → Holds i (int_max p q)
greater-held Never p q h k = absurd h
greater-held (Range lo hi) p q h k = (omega (arith, ints, clamps, h.0, k.0), omega (arith, ints, clamps, h.1, k.1))

pub within-sums : (m n : ℕ) (i j : Interval) → m ≤ n → IsWithin i j → IsWithin (sums m i) (sums n j)
within-sums m n Never j l h = tt
within-sums m n (Range a b) Never l h = absurd h.0
within-sums m n (Range a b) (Range c d) l h =
    let few : max (row_bound m) 1 ≤ max (row_bound n) 1 = omega arith in
    let one : 1 ≤ max (row_bound m) 1 = omega arith in
    let most : 1 ≤ max (row_bound n) 1 = omega arith in
    let e = subst (Holds (sums n (Range c d))) (times_one a) (taken c d a 1 (max (row_bound n) 1) h.0.0 h.0.1 (omega arith) most) in
    let f = taken c d a (max (row_bound m) 1) (max (row_bound n) 1) h.0.0 h.0.1 one few in
    let g = subst (Holds (sums n (Range c d))) (times_one b) (taken c d b 1 (max (row_bound n) 1) h.1.0 h.1.1 (omega arith) most) in
    let k = taken c d b (max (row_bound m) 1) (max (row_bound n) 1) h.1.0 h.1.1 one few in
    (lesser-held (sums n (Range c d)) a _ e f, greater-held (sums n (Range c d)) b _ g k)

pub within-with_zero : (i j : Interval) → IsWithin i j → IsWithin (with_zero i) (with_zero j)
within-with_zero Never j h = (with_zero-zero j, with_zero-zero j)
within-with_zero (Range a b) j h =
    (lesser-held (with_zero j) a (pos 0) (with_zero-holds j a h.0) (with_zero-zero j), greater-held (with_zero j) b (pos 0) (with_zero-holds j b h.1) (with_zero-zero j))

pub within-counts : (m n : ℕ) → m ≤ n → IsWithin (counts m) (counts n)
within-counts m n l = ((omega (arith, ints), omega (arith, ints)), (omega (arith, ints), omega (arith, ints)))

-- ---- ends in order

pub proper-sums : (n : ℕ) (i : Interval) → IsProper i → IsProper (sums n i)
proper-sums n Never h = tt
proper-sums n (Range lo hi) h = omega (arith, ints, clamps, h)

pub proper-with_zero : (i : Interval) → IsProper (with_zero i)
proper-with_zero Never = omega (arith, ints)
proper-with_zero (Range lo hi) = omega (arith, ints, clamps)
