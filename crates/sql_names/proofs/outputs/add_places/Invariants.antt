use Rattle.std.proofs.Common.{◌≡◌, ◌+◌, ◌++◌, drop}
use Rattle.sql_meaning.specs.Direct.{shown}
use Rattle.sql_meaning.specs.Names.{places_from}
use Rattle.sql_meaning.specs.Scope.{hidden_by}
use Rattle.sql_names.proofs.outputs.add_places.Given as goal

abbrev pub invariant-loop-at : goal.invariant-loop-at
invariant-loop-at l =
    l.places ++ shown (hidden_by l.entry.entry.how) (drop l.at l.columns) (places_from (l.before + l.at) (drop l.at l.columns))
    ≡ l.initial.places ++ shown (hidden_by l.entry.entry.how) l.columns (places_from l.before l.columns)
