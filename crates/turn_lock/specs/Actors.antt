-- Lists of actors, which rise.
use Rattle.std.specs.Prelude.{ℕ, ◌-◌, List, [], ◌∷◌, length, take, drop, nat_lt, if◌then◌else◌}

-- xs, with a in its place
abbrev pub put : ℕ → List ℕ → List ℕ
put a [] = a ∷ []
put a (x ∷ xs) = if nat_lt a x then a ∷ x ∷ xs else x ∷ put a xs

-- the numbers of both lists
abbrev pub merged : List ℕ → List ℕ → List ℕ
merged xs [] = xs
merged xs (y ∷ ys) = put y (merged xs ys)

-- all but the n highest, and the n highest
abbrev pub lower : ℕ → List ℕ → List ℕ
lower n xs = take (length xs - n) xs

abbrev pub upper : ℕ → List ℕ → List ℕ
upper n xs = drop (length xs - n) xs
