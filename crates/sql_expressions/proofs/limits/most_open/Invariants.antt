use Rattle.std.proofs.Common.{◌≡◌, ◌≤◌, max, drop}
use Rattle.sql_expressions.specs.Limits.{most_open}
use Rattle.sql_expressions.proofs.limits.most_open.Given as goal

abbrev pub invariant-loop-token : goal.invariant-loop-token
invariant-loop-token l = record {
  whole : max l.most (most_open l.«open» (drop l.token-index l.tokens)) ≡ most_open 0 l.tokens;
  few : l.«open» ≤ l.token-index;
  reached : l.«open» ≤ l.most;
}
