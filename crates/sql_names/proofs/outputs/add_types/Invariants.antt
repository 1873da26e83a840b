use Rattle.std.proofs.Common.{◌≡◌, ◌++◌, drop, map}
use Rattle.sql_meaning.specs.Direct.{shown}
use Rattle.sql_meaning.specs.Scope.{hidden_by, type_of_column}
use Rattle.sql_names.proofs.outputs.add_types.Given as goal

abbrev pub invariant-loop-column : goal.invariant-loop-column
invariant-loop-column l =
    l.types ++ shown (hidden_by l.entry.entry.how) (drop l.column-index l.columns) (map (type_of_column l.entry) (drop l.column-index l.columns))
    ≡ l.initial.types ++ shown (hidden_by l.entry.entry.how) l.columns (map (type_of_column l.entry) l.columns)
