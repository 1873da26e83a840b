-- What one walk over a tree tells: of the places that don't go together or fit, the one that counts.
use Rattle.std.specs.Prelude.{ℕ, [], List, Option, Some, None}
use Rattle.sql_tree.specs.declared.tree.Tree.{Tree}
use Rattle.sql_tree.specs.declared.tree.Tree.TheFolds.{fold-Tree}
use Rattle.sql_meaning.specs.declared.misfit.Misfit.{Misfit}
use Rattle.sql_meaning.specs.Bounds.{Equated, equated_step}
use Rattle.sql_meaning.specs.Kinds.{Kinded}
use Rattle.sql_meaning.specs.Refused.{lower, lowest, nearer, nearest}
use Rattle.sql_meaning.specs.Scope.{Header}
use Rattle.sql_meaning.specs.Sizes.{Sized}
use Rattle.sql_types.specs.declared.kinds.Judged.{Judged}
use Rattle.sql_types.specs.declared.sizes.Weighed.{Weighed}

-- the lower place of two, where there is one
abbrev pub lower_of : Option ℕ → Option ℕ → Option ℕ
lower_of None other = other
lower_of (Some place) other = lower place other

-- the misfit with the lower place of two, and the first of one place
abbrev pub nearer_of : Option Misfit → Option Misfit → Option Misfit
nearer_of None other = other
nearer_of (Some m) other = nearer m other

abbrev pub judged_of : Kinded → Judged
judged_of k = record { kind = k.kind; place = k.place; clash = lowest k.clashes }

-- an expression of the kind at the place, in which all goes together
abbrev pub bare : Judged → Kinded
bare j = record { kind = j.kind; place = j.place; clashes = [] }

abbrev pub weighed_of : Sized → Weighed
weighed_of s = record { kind = s.type; misfit = nearest s.misfits }

-- what a condition equates, and the column that it is
abbrev pub equated_of : List Header → ℕ → Tree → Equated
equated_of scope width tree = fold-Tree Equated (equated_step scope width) tree
