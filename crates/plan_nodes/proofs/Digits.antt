-- The digits of a number, one by one.
use Rattle.std.proofs.Common.{◌≡◌, ℕ, zero, suc, ◌+◌, ◌-◌, ◌/◌, ◌<◌, ◌≤◌, refl, arith, cond, ltb, true, false, Bool, ap, sym, ◌∙◌, subst}
use Rattle.plan_nodes.specs.Weights.{bits, digits}

pub bits-start : (n : ℕ) → bits n ≡ 0 + digits (128 - 0) n
unfolding bits
bits-start n = let zero-left : (m : ℕ) → m ≡ 0 + m = λ m. omega arith in zero-left (digits 128 n)

pub digits-one : (k n : ℕ) → k < 128 → 0 < n → digits (128 - k) n ≡ 1 + digits (128 - (k + 1)) (n / 2)
digits-one k n h p =
    let e : 128 - k ≡ suc (128 - (k + 1)) = omega arith in
    let t : ltb 0 n ≡ true = grind arith in
    rw (e, t) refl

pub digits-zero : (most n : ℕ) → n ≤ 0 → digits most n ≡ 0
digits-zero zero n h = refl
digits-zero (suc most) n h = let t : ltb 0 n ≡ false = grind arith in rw t refl

pub bits-more : (total count k n : ℕ) → k < 128 → 0 < n → total ≡ count + digits (128 - k) n → total ≡ count + 1 + digits (128 - (k + 1)) (n / 2)
bits-more total count k n h p e = let d = digits-one k n h p in omega arith

pub bits-same : (total count k n : ℕ) → n ≤ 0 → total ≡ count + digits (128 - k) n → total ≡ count + digits (128 - (k + 1)) n
bits-same total count k n p e = let d = digits-zero (128 - k) n p in let f = digits-zero (128 - (k + 1)) n p in omega arith

pub bits-end : (total count k n : ℕ) → 128 ≤ k → total ≡ count + digits (128 - k) n → total ≡ count
bits-end total count k n h e = let z : 128 - k ≡ 0 = omega arith in let d : digits (128 - k) n ≡ 0 = rw z refl in omega arith

pub ruleset digit_steps = (bits-start, bits-more, bits-same, bits-end)
