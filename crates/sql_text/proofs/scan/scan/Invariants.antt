use Rattle.std.proofs.Common.{length}
use Rattle.sql_text.proofs.Reading.{IsOn}
use Rattle.sql_text.proofs.scan.scan.Given as goal

abbrev pub invariant-loop-rest : goal.invariant-loop-rest
invariant-loop-rest l = IsOn l.all l.found l.rest

abbrev pub decreases-loop-rest : goal.decreases-loop-rest
decreases-loop-rest l = length l.rest
