use Rattle.std.proofs.Common.{◌≡◌, ◌++◌, drop}
use Rattle.std.specs.List.{flat_map}
use Rattle.sql_meaning.specs.Sizes.{shown_types}
use Rattle.sql_names.proofs.outputs.star_types.Given as goal

abbrev pub invariant-loop-entry : goal.invariant-loop-entry
invariant-loop-entry l = l.types ++ flat_map shown_types (drop l.entry-index l.scope) ≡ flat_map shown_types l.scope
