use Rattle.std.proofs.Common.{◌≡◌, ◌++◌, drop}
use Rattle.sql_meaning.specs.Names.{places_from}
use Rattle.sql_translate.proofs.items.all_columns.Given as goal

abbrev pub invariant-loop-at : goal.invariant-loop-at
invariant-loop-at l = l.columns ++ places_from l.at (drop l.at l.items) ≡ places_from 0 l.items
