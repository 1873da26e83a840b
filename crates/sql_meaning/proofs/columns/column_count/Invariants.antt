use Rattle.std.proofs.Common.{◌≡◌, ◌+◌, drop, length}
use Rattle.sql_meaning.specs.Scope.{types_in}
use Rattle.sql_meaning.proofs.columns.column_count.Given as goal

abbrev pub invariant-loop-entry : goal.invariant-loop-entry
invariant-loop-entry l = l.count + length (types_in (drop l.entry-index l.scope)) ≡ length (types_in l.scope)
