-- What lies between the results at the corners.
use Rattle.std.proofs.Common.{◌≡◌, ℕ, suc, ◌/◌, ◌≤◌, arith, refl, ℤ, pos, negsuc, ◌≤ℤ◌, ◌<ℤ◌, neg_ℤ, ◌+ℤ◌, ◌-ℤ◌, ◌*ℤ◌, ◌⊎◌, inl, inr, zero}
use Rattle.std.specs.Int.RustNames.{int_div}
use Rattle.std.proofs.Math.IntN.{*ℤ_comm}
use Rattle.std.proofs.Math.Nat.{mul-le-mul_right, mul-le-mul_left, div-mul-le_self}
use Rattle.std.proofs.lemmas.Nat.{le-div}
use Rattle.std.proofs.lemmas.Int.{ints, clamps}
use Rattle.cal_value.specs.Interval.{hull, Holds}

-- z is between p and q, in either order
abbrev pub IsBetween : ℤ → ℤ → ℤ → Type 0
IsBetween p q z = ((p ≤ℤ z) × (z ≤ℤ q)) ⊎ ((q ≤ℤ z) × (z ≤ℤ p))

pub corners : (p q r s u v z : ℤ) → IsBetween p q u → IsBetween r s v → IsBetween u v z → Holds (hull p q r s) z
corners p q r s u v z (inl x) (inl y) (inl w) = (omega (arith, ints, clamps), omega (arith, ints, clamps))
corners p q r s u v z (inl x) (inl y) (inr w) = (omega (arith, ints, clamps), omega (arith, ints, clamps))
corners p q r s u v z (inl x) (inr y) (inl w) = (omega (arith, ints, clamps), omega (arith, ints, clamps))
corners p q r s u v z (inl x) (inr y) (inr w) = (omega (arith, ints, clamps), omega (arith, ints, clamps))
corners p q r s u v z (inr x) (inl y) (inl w) = (omega (arith, ints, clamps), omega (arith, ints, clamps))
corners p q r s u v z (inr x) (inl y) (inr w) = (omega (arith, ints, clamps), omega (arith, ints, clamps))
corners p q r s u v z (inr x) (inr y) (inl w) = (omega (arith, ints, clamps), omega (arith, ints, clamps))
corners p q r s u v z (inr x) (inr y) (inr w) = (omega (arith, ints, clamps), omega (arith, ints, clamps))

pub sum-corners : (a b c d x y : ℤ) → a ≤ℤ x → x ≤ℤ b → c ≤ℤ y → y ≤ℤ d → Holds (hull (a +ℤ c) (a +ℤ d) (b +ℤ c) (b +ℤ d)) (x +ℤ y)
sum-corners a b c d x y h i j k = corners (a +ℤ c) (a +ℤ d) (b +ℤ c) (b +ℤ d) (a +ℤ y) (b +ℤ y) (x +ℤ y)
    (inl (omega (arith, ints), omega (arith, ints))) (inl (omega (arith, ints), omega (arith, ints))) (inl (omega (arith, ints), omega (arith, ints)))

pub difference-corners : (a b c d x y : ℤ) → a ≤ℤ x → x ≤ℤ b → c ≤ℤ y → y ≤ℤ d → Holds (hull (a -ℤ c) (a -ℤ d) (b -ℤ c) (b -ℤ d)) (x -ℤ y)
difference-corners a b c d x y h i j k = corners (a -ℤ c) (a -ℤ d) (b -ℤ c) (b -ℤ d) (a -ℤ y) (b -ℤ y) (x -ℤ y)
    (inr (omega (arith, ints), omega (arith, ints))) (inr (omega (arith, ints), omega (arith, ints))) (inl (omega (arith, ints), omega (arith, ints)))

pub times_up : (x y : ℤ) (n : ℕ) → x ≤ℤ y → (x *ℤ pos n) ≤ℤ (y *ℤ pos n)
times_up (pos a) (pos b) n h = let le : a ≤ b = omega (arith, ints) in let m = mul-le-mul_right n le in omega (arith, ints)
times_up (pos a) (negsuc b) n h = absurd (omega (arith, ints))
times_up (negsuc a) (pos b) n h = omega (arith, ints)
times_up (negsuc a) (negsuc b) n h = let le : suc b ≤ suc a = omega (arith, ints) in let m = mul-le-mul_right n le in omega (arith, ints)

pub times_down : (x y : ℤ) (n : ℕ) → x ≤ℤ y → (y *ℤ negsuc n) ≤ℤ (x *ℤ negsuc n)
times_down x y n h = let up = times_up x y (suc n) h in omega (arith, ints)

times-between : (a b x k : ℤ) → a ≤ℤ x → x ≤ℤ b → IsBetween (a *ℤ k) (b *ℤ k) (x *ℤ k)
times-between a b x (pos n) h i = inl (times_up a x n h, times_up x b n i)
times-between a b x (negsuc n) h i = inr (times_down x b n i, times_down a x n h)

-- ---- quotients, which round toward zero

quot_up_ℕ : (a b n : ℕ) → a ≤ b → a / suc n ≤ b / suc n
quot_up_ℕ a b n h = le-div (a / suc n) b (suc n) (omega arith) (omega (arith, div-mul-le_self a (suc n)))

quot_down_ℕ : (a c d : ℕ) → c ≤ d → a / suc d ≤ a / suc c
quot_down_ℕ a c d h =
    let le : suc c ≤ suc d = omega arith in
    le-div (a / suc d) a (suc c) (omega arith) (omega (arith, div-mul-le_self a (suc d), mul-le-mul_left (a / suc d) le))

quot_up : (x y : ℤ) (n : ℕ) → x ≤ℤ y → int_div x (pos (suc n)) ≤ℤ int_div y (pos (suc n))
quot_up (pos a) (pos b) n h = let le : a ≤ b = omega (arith, ints) in let q = quot_up_ℕ a b n le in omega (arith, ints)
quot_up (pos a) (negsuc b) n h = absurd (omega (arith, ints))
quot_up (negsuc a) (pos b) n h = omega (arith, ints)
quot_up (negsuc a) (negsuc b) n h = let le : suc b ≤ suc a = omega (arith, ints) in let q = quot_up_ℕ (suc b) (suc a) n le in omega (arith, ints)

quot_negsuc : (x : ℤ) (n : ℕ) → int_div x (negsuc n) ≡ neg_ℤ (int_div x (pos (suc n)))
quot_negsuc (pos a) n = refl
quot_negsuc (negsuc a) n = omega (arith, ints)

quot_down : (x y : ℤ) (n : ℕ) → x ≤ℤ y → int_div y (negsuc n) ≤ℤ int_div x (negsuc n)
quot_down x y n h = let up = quot_up x y n h in omega (arith, ints, quot_negsuc x n, quot_negsuc y n)

-- in the dividend, at a divisor that isn't 0
quot-between : (a b x k : ℤ) → (k ≡ pos 0 → ⊥) → a ≤ℤ x → x ≤ℤ b → IsBetween (int_div a k) (int_div b k) (int_div x k)
quot-between a b x (pos zero) ne h i = absurd (ne refl)
quot-between a b x (pos (suc n)) ne h i = inl (quot_up a x n h, quot_up x b n i)
quot-between a b x (negsuc n) ne h i = inr (quot_down x b n i, quot_down a x n h)

-- in the divisor, above 0
divisor_up : (x : ℤ) (c d y : ℕ) → c ≤ y → y ≤ d → IsBetween (int_div x (pos (suc c))) (int_div x (pos (suc d))) (int_div x (pos (suc y)))
divisor_up (pos a) c d y h i =
    let p = quot_down_ℕ a c y h in
    let q = quot_down_ℕ a y d i in
    inr (omega (arith, ints), omega (arith, ints))
divisor_up (negsuc a) c d y h i =
    let p = quot_down_ℕ (suc a) c y h in
    let q = quot_down_ℕ (suc a) y d i in
    inl (omega (arith, ints), omega (arith, ints))

IsBetween-neg : (p q z : ℤ) → IsBetween p q z → IsBetween (neg_ℤ q) (neg_ℤ p) (neg_ℤ z)
IsBetween-neg p q z (inl h) = inl (omega (arith, ints), omega (arith, ints))
IsBetween-neg p q z (inr h) = inr (omega (arith, ints), omega (arith, ints))

-- and below 0
divisor_down : (x : ℤ) (c d y : ℕ) → d ≤ y → y ≤ c → IsBetween (int_div x (negsuc c)) (int_div x (negsuc d)) (int_div x (negsuc y))
divisor_down x c d y h i =
    rw (quot_negsuc x c, quot_negsuc x d, quot_negsuc x y) (IsBetween-neg _ _ _ (divisor_up x d c y h i))

-- both are above 0, or both below
abbrev pub OnOneSide : ℤ → ℤ → Type 0
OnOneSide c d = ((pos 0 <ℤ c) × (pos 0 <ℤ d)) ⊎ ((c <ℤ pos 0) × (d <ℤ pos 0))

divisor-between : (x c d y : ℤ) → OnOneSide c d → c ≤ℤ y → y ≤ℤ d → IsBetween (int_div x c) (int_div x d) (int_div x y)
divisor-between x (pos zero) d y (inl s) h i = absurd (omega (arith, ints))
divisor-between x (pos (suc c)) (pos zero) y (inl s) h i = absurd (omega (arith, ints))
divisor-between x (pos (suc c)) (pos (suc d)) (pos zero) (inl s) h i = absurd (omega (arith, ints))
divisor-between x (pos (suc c)) (pos (suc d)) (pos (suc y)) (inl s) h i = divisor_up x c d y (omega (arith, ints)) (omega (arith, ints))
divisor-between x (pos (suc c)) (pos (suc d)) (negsuc y) (inl s) h i = absurd (omega (arith, ints))
divisor-between x (pos (suc c)) (negsuc d) y (inl s) h i = absurd (omega (arith, ints))
divisor-between x (negsuc c) d y (inl s) h i = absurd (omega (arith, ints))
divisor-between x (pos c) d y (inr s) h i = absurd (omega (arith, ints))
divisor-between x (negsuc c) (pos d) y (inr s) h i = absurd (omega (arith, ints))
divisor-between x (negsuc c) (negsuc d) (pos y) (inr s) h i = absurd (omega (arith, ints))
divisor-between x (negsuc c) (negsuc d) (negsuc y) (inr s) h i = divisor_down x c d y (omega (arith, ints)) (omega (arith, ints))

pub not_zero : (c d y : ℤ) → OnOneSide c d → c ≤ℤ y → y ≤ℤ d → y ≡ pos 0 → ⊥
not_zero c d y (inl s) h i e = omega (arith, ints)
not_zero c d y (inr s) h i e = omega (arith, ints)

pub product-corners : (a b c d x y : ℤ) → a ≤ℤ x → x ≤ℤ b → c ≤ℤ y → y ≤ℤ d → Holds (hull (a *ℤ c) (a *ℤ d) (b *ℤ c) (b *ℤ d)) (x *ℤ y)
product-corners a b c d x y h i j k = corners (a *ℤ c) (a *ℤ d) (b *ℤ c) (b *ℤ d) (a *ℤ y) (b *ℤ y) (x *ℤ y)
    (rw (*ℤ_comm a c, *ℤ_comm a d, *ℤ_comm a y) (times-between c d y a j k)) (rw (*ℤ_comm b c, *ℤ_comm b d, *ℤ_comm b y) (times-between c d y b j k)) (times-between a b x y h i)

pub quotient-corners : (a b c d x y : ℤ) → OnOneSide c d → a ≤ℤ x → x ≤ℤ b → c ≤ℤ y → y ≤ℤ d → Holds (hull (int_div a c) (int_div a d) (int_div b c) (int_div b d)) (int_div x y)
quotient-corners a b c d x y s h i j k = corners (int_div a c) (int_div a d) (int_div b c) (int_div b d) (int_div a y) (int_div b y) (int_div x y)
    (divisor-between a c d y s j k) (divisor-between b c d y s j k) (quot-between a b x y (not_zero c d y s j k) h i)
