use Rattle.std.proofs.Common.{◌≡◌, false, length}
use Rattle.sql_text.specs.Scan.{skipped}
use Rattle.sql_text.proofs.scan.skip_space.Given as goal

abbrev pub invariant-loop-rest : goal.invariant-loop-rest
invariant-loop-rest l = skipped l.in_comment l.rest ≡ skipped false l.fn.rest

abbrev pub decreases-loop-rest : goal.decreases-loop-rest
decreases-loop-rest l = length l.rest
