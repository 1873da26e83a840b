use Rattle.std.proofs.Common.{◌≡◌, ◌++◌, take}
use Rattle.sql_names.proofs.Named.{shown_in}
use Rattle.sql_meaning.specs.Scope.{hidden_by}
use Rattle.sql_names.proofs.names.add_shown.Given as goal

abbrev pub invariant-loop-column : goal.invariant-loop-column
invariant-loop-column l = l.names ≡ l.initial.names ++ shown_in (hidden_by l.entry.entry.how) (take l.column-index l.columns)
