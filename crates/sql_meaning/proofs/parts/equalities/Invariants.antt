use Rattle.std.proofs.Common.{◌≡◌, map, take}
use Rattle.sql_meaning.specs.Parts.{equal_columns}
use Rattle.sql_meaning.proofs.parts.equalities.Given as goal

abbrev pub invariant-loop-used : goal.invariant-loop-used
invariant-loop-used l = l.trees ≡ map (equal_columns l.alias) (take l.used-index l.names)
