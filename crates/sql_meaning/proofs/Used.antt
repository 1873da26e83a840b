-- The names that USING has.
use Rattle.std.proofs.Common.{◌≡◌, List, [], ◌∷◌, ℕ, refl, ap, map}
use Rattle.std.specs.Prelude.{◌||◌}
use Rattle.std.specs.List.{list_any}
use Rattle.cal_schema.specs.Lookup.{is_same_name}
use Rattle.sql_tree.specs.declared.select.UsingName.{UsingName}
use Rattle.sql_meaning.specs.Scope.{is_among}

pub among_names : (name : List ℕ) (names : List UsingName)
    → is_among name (map (λ used. used.name) names) ≡ list_any (λ used. is_same_name name used.name) names
among_names name [] = refl
among_names name (used ∷ names) = ap (λ b. is_same_name name used.name || b) (among_names name names)
