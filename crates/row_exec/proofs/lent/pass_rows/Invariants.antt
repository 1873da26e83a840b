use Rattle.std.proofs.Common.{◌≡◌, ◌+◌, ◌++◌, drop}
use Rattle.cal_snapshot.specs.Parts.{rows_in}
use Rattle.row_exec.specs.Passes.{passed}
use Rattle.row_exec.proofs.lent.pass_rows.Given as goal

abbrev pub invariant-loop-at : goal.invariant-loop-at
invariant-loop-at g l = record {
  made : l.rows ++ passed l.pass (drop l.at (rows_in l.snapshot l.pass.table)) ≡ passed l.pass (rows_in l.snapshot l.pass.table);
  stepped : l.steps ≡ l.initial.steps + l.at;
}
