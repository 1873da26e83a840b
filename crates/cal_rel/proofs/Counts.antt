-- Bounds of products, cut at a limit.
use Rattle.std.proofs.Common.{ℕ, zero, suc, ◌*◌, ◌<◌, ◌≤◌, min, max, arith}
use Rattle.std.proofs.Math.Nat.{le-mul_of_pos_right}
use Rattle.std.proofs.lemmas.Nat.{mul-le}

pub product-few : (l m n a b : ℕ) → (m < l → a ≤ m) → (n < l → b ≤ n) → m * n < l → a * b ≤ m * n
product-few l zero n a b h k p = let none = h (omega arith) in omega (arith, mul-le a b 0 b none (omega arith))
product-few l (suc m) zero a b h k p = let none = k (omega arith) in omega (arith, mul-le a b a 0 (omega arith) none)
product-few l (suc m) (suc n) a b h k p =
    let one : suc m ≤ suc m * suc n = le-mul_of_pos_right {m = suc n} (suc m) (omega arith) in
    let two : 1 * suc n ≤ suc m * suc n = mul-le 1 (suc n) (suc m) (suc n) (omega arith) (omega arith) in
    mul-le a b (suc m) (suc n) (h (omega (arith, one))) (k (omega (arith, two)))

pub cut-few : (l p r : ℕ) → (p < l → r ≤ p) → min p l < l → r ≤ min p l
cut-few l p r h k = let e = h (omega arith) in omega arith

-- of at most a times b rows
pub pairs-few : (l m n a b r : ℕ) → (m < l → a ≤ m) → (n < l → b ≤ n) → r ≤ a * b → min (m * n) l < l → r ≤ min (m * n) l
pairs-few l m n a b r h k few = cut-few l (m * n) r (λ p. let q = product-few l m n a b h k p in omega arith)

one-more : (l n b : ℕ) → (n < l → b ≤ n) → max n 1 < l → max b 1 ≤ max n 1
one-more l n b k p = let q = k (omega arith) in omega arith

pub padded-few : (l m n a b r : ℕ) → (m < l → a ≤ m) → (n < l → b ≤ n) → r ≤ a * max b 1 → min (m * max n 1) l < l → r ≤ min (m * max n 1) l
padded-few l m n a b r h k few = pairs-few l m (max n 1) a (max b 1) r h (one-more l n b k) few

pub either-few : (l m n r : ℕ) → (m < l → r ≤ m) → (n < l → r ≤ n) → min m n < l → r ≤ min m n
either-few l m n r h k p = grind arith
