use Rattle.std.proofs.Common.{◌≡◌, ◌++◌, take}
use Rattle.expr_parts.proofs.columns.appended.Given as goal

abbrev pub invariant-loop-at : goal.invariant-loop-at
invariant-loop-at l = l.columns ≡ l.initial.columns ++ take l.at-index l.more
