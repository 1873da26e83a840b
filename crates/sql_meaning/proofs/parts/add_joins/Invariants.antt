use Rattle.std.proofs.Common.{◌≡◌, ◌++◌, take}
use Rattle.sql_meaning.specs.Parts.{join_parts}
use Rattle.sql_meaning.proofs.parts.add_joins.Given as goal

abbrev pub invariant-loop-before : goal.invariant-loop-before
invariant-loop-before l = l.parts ≡ l.initial.parts ++ join_parts 0 (take l.before l.from)
