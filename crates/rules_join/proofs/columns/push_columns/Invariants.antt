use Rattle.std.proofs.Common.{◌≡◌, ◌++◌, ◌-◌}
use Rattle.std.specs.List.{range_with_len}
use Rattle.rules_join.proofs.columns.push_columns.Given as goal

abbrev pub invariant-loop-at : goal.invariant-loop-at
invariant-loop-at l = l.columns ++ range_with_len l.at (l.end - l.at) ≡ l.initial.columns ++ range_with_len l.from (l.end - l.from)
