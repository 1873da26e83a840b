use Rattle.std.proofs.Common.{◌≡◌, ◌≤◌, false, length}
use Rattle.sql_text.specs.Scan.{unquoted, with_front, within}
use Rattle.sql_text.proofs.scan.unquoted.Given as goal

-- what was read and what is left give the answer
abbrev pub invariant-loop-rest : goal.invariant-loop-rest
invariant-loop-rest l = record {
  answer : within l.limit (with_front l.inside.items (unquoted l.quote l.is_second l.rest)) ≡ within l.limit (unquoted l.quote false l.fn.rest);
  room : length l.inside.items ≤ l.limit;
}

abbrev pub decreases-loop-rest : goal.decreases-loop-rest
decreases-loop-rest l = length l.rest
