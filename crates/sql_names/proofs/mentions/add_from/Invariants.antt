use Rattle.std.proofs.Common.{◌≡◌, ◌++◌, [], take}
use Rattle.sql_meaning.specs.Mentions.{from_mentions}
use Rattle.sql_names.proofs.mentions.add_from.Given as goal

abbrev pub invariant-loop-at : goal.invariant-loop-at
invariant-loop-at l = l.all ≡ l.initial.all ++ from_mentions [] (take l.at l.scope)
