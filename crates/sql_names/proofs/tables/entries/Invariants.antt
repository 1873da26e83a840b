use Rattle.std.proofs.Common.{◌≡◌, map, take}
use Rattle.sql_meaning.specs.Scope.{header_of}
use Rattle.sql_names.proofs.tables.entries.Given as goal

abbrev pub invariant-loop-at : goal.invariant-loop-at
invariant-loop-at l = l.scope ≡ map (header_of l.schema) (take l.at l.from)
