use Rattle.std.proofs.Common.{◌≡◌, take}
use Rattle.sql_meaning.specs.Names.{star_names}
use Rattle.sql_names.proofs.names.star_names.Given as goal

abbrev pub invariant-loop-entry : goal.invariant-loop-entry
invariant-loop-entry l = l.names ≡ star_names (take l.entry-index l.scope)
