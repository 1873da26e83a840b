-- Numbers in order, one by one.
use Rattle.std.proofs.Common.{◌≡◌, ℕ, suc, ◌+◌, ◌-◌, ◌<◌, ◌∷◌, ap, arith}
use Rattle.std.specs.List.{range_with_len}

pub range-next : (at end : ℕ) → at < end → range_with_len at (end - at) ≡ at ∷ range_with_len (at + 1) (end - (at + 1))
range-next at end l =
    let more : end - at ≡ suc (end - (at + 1)) = omega arith in
    ap (range_with_len at) more
