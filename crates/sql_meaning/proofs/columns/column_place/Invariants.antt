use Rattle.std.proofs.Common.{◌≡◌, ◌+◌, drop, length, option_map}
use Rattle.sql_meaning.specs.Scope.{place_of, types_in}
use Rattle.sql_meaning.proofs.columns.column_place.Given as goal

abbrev pub invariant-loop-entry : goal.invariant-loop-entry
invariant-loop-entry l = record {
  place : place_of l.scope l.name ≡ option_map (λ k. l.before + k) (place_of (drop l.entry-index l.scope) l.name);
  within : l.before + length (types_in (drop l.entry-index l.scope)) ≡ length (types_in l.scope);
}
