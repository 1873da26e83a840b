use Rattle.std.proofs.Common.{◌≡◌, ◌++◌, map, take}
use Rattle.sql_meaning.specs.Scope.{column_at}
use Rattle.sql_names.proofs.references.add_columns.Given as goal

abbrev pub invariant-loop-column : goal.invariant-loop-column
invariant-loop-column l = l.places ≡ l.initial.places ++ map (column_at l.scope) (take l.column-index l.columns)
