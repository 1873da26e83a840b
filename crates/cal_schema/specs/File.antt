-- The names of tables' files.
use Rattle.std.specs.Prelude.{◌≡◌, ℕ, ◌==◌, ◌&&◌, ◌-◌, Bool, false, List, [], ◌∷◌, length, drop}
use Rattle.std.specs.Char.{to_ascii_lowercase}
use Rattle.cal_schema.specs.declared.table.AdapterKind.{AdapterKind}
use Rattle.cal_schema.specs.declared.table.AdapterKind.TheVariants.{Csv, Mem}

-- `.gz` in any case
abbrev pub is_gz : List ℕ → Bool
is_gz (dot ∷ g ∷ z ∷ []) = dot == 46 && to_ascii_lowercase g == 103 && to_ascii_lowercase z == 122
is_gz end = false

-- the name ends in `.gz`, in any case
abbrev pub is_compressed : List ℕ → Bool
is_compressed name = is_gz (drop (length name - 3) name)

-- a file that is read isn't compressed, and a table whose rows stand in the model has none
abbrev pub IsFileOf : AdapterKind → List ℕ → Type 0
IsFileOf Csv file = is_compressed file ≡ false
IsFileOf Mem file = file ≡ []
