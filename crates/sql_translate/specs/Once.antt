-- Lists without repeats, made one element after another: words of private contracts.
use Rattle.std.specs.Prelude.{Bool, List, [], ◌∷◌, ◌++◌, fold, if◌then◌else◌}
use Rattle.std.specs.List.{list_any}

-- the element behind the others, where it is none of them
abbrev pub with_one : {A : Type 0} → (A → A → Bool) → List A → A → List A
with_one same xs y = if list_any (λ x. same x y) xs then xs else xs ++ y ∷ []

abbrev pub with_each : {A : Type 0} → (A → A → Bool) → List A → List A → List A
with_each same xs ys = fold (with_one same) xs ys
