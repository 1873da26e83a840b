use Rattle.std.proofs.Common.{◌≡◌, ◌++◌, map, take}
use Rattle.sql_meaning.specs.Mentions.{column_mention}
use Rattle.sql_names.proofs.mentions.add_columns.Given as goal

abbrev pub invariant-loop-column : goal.invariant-loop-column
invariant-loop-column l = l.all ≡ l.initial.all ++ map (column_mention l.scope) (take l.column-index l.columns)
