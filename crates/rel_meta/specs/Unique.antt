-- Columns on which rows differ.
use Rattle.std.specs.Prelude.{◌≡◌, ℕ, false, List, AllPairs}
use Rattle.cal_rel.specs.Operators.{Row, same_key}

-- no two rows at different places agree on these columns, where NULL is equal to NULL
abbrev pub IsUniqueOn : List ℕ → List Row → Type 0
IsUniqueOn columns rows = AllPairs (λ a b. same_key columns a b ≡ false) rows
