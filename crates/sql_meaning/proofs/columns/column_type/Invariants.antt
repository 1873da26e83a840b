use Rattle.std.proofs.Common.{◌≡◌, drop}
use Rattle.sql_meaning.specs.Scope.{type_in}
use Rattle.sql_meaning.proofs.columns.column_type.Given as goal

abbrev pub invariant-loop-entry : goal.invariant-loop-entry
invariant-loop-entry l = type_in l.scope l.name ≡ type_in (drop l.entry-index l.scope) l.name
