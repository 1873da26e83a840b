use Rattle.std.proofs.Common.{◌≡◌, ◌+◌, ◌++◌, drop}
use Rattle.plan_scans.specs.Chains.{rows_held}
use Rattle.plan_scans.proofs.scan.tile_rows.Given as goal

abbrev pub invariant-loop-at : goal.invariant-loop-at
invariant-loop-at g l = (l.rows ++ drop l.at (rows_held l.snapshot l.tile) ≡ rows_held l.snapshot l.tile) × (l.steps ≡ l.initial.steps + l.at)
