-- The loops over numbers, one number further.
use Rattle.std.proofs.Common.{◌≡◌, ℕ, ◌+◌, List, [], ◌∷◌, ◌++◌, map, arith}
use Rattle.std.specs.List.{range_with_len}
use Rattle.std.proofs.lemmas.List.FromFn.{map-range_with_len_more}

pub map-more : {A : Type 0} (f : ℕ → A) (k : ℕ) → map f (range_with_len 0 (k + 1)) ≡ map f (range_with_len 0 k) ++ f k ∷ []
map-more f k = map-range_with_len_more f 0 k k (omega arith)

pub ruleset range_steps = (map-more)
