use Rattle.std.proofs.Common.{◌≡◌, ◌+◌, ◌++◌, drop}
use Rattle.cal_snapshot.specs.Parts.{rows_in}
use Rattle.adapters.specs.Scan.{scanned}
use Rattle.adapters.proofs.walk.walk.Given as goal

abbrev pub invariant-loop-at : goal.invariant-loop-at
invariant-loop-at g l = (l.rows ++ scanned l.request (drop l.at (rows_in l.snapshot l.table)) ≡ scanned l.request (rows_in l.snapshot l.table))
    × (l.steps ≡ l.initial.steps + l.at)
