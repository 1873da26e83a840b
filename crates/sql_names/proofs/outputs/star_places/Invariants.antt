use Rattle.std.proofs.Common.{◌≡◌, ◌+◌, ◌++◌, drop, length}
use Rattle.sql_meaning.specs.Names.{star_places}
use Rattle.sql_meaning.specs.Scope.{types_in}
use Rattle.sql_names.proofs.outputs.star_places.Given as goal

abbrev pub invariant-loop-entry : goal.invariant-loop-entry
invariant-loop-entry l = record {
  places : l.places ++ star_places l.before (drop l.entry-index l.scope) ≡ star_places 0 l.scope;
  within : l.before + length (types_in (drop l.entry-index l.scope)) ≡ length (types_in l.scope);
}
