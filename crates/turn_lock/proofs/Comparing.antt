-- A test of two numbers.
use Rattle.std.proofs.Common.{◌≡◌, ℕ, ◌<◌, ◌≤◌, Bool, true, false, ltb, refl}
use Rattle.std.proofs.lemmas.Bool.{ltb-true, ltb-false}

split_lt : (a b : ℕ) (P : Bool → Type 0) → (a < b → P true) → (b ≤ a → P false) → (c : Bool) → ltb a b ≡ c → P c
split_lt a b P hit miss true e = hit (ltb-true a b e)
split_lt a b P hit miss false e = miss (ltb-false a b e)

pub by_lt : (a b : ℕ) (P : Bool → Type 0) → (a < b → P true) → (b ≤ a → P false) → P (ltb a b)
by_lt a b P hit miss = split_lt a b P hit miss (ltb a b) refl
