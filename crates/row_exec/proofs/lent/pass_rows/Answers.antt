use Rattle.std.proofs.Common.{◌+◌, ◌++◌, List, drop, ap, ◌∙◌, arith}
use Rattle.cal_rel.specs.Operators.{Row}
use Rattle.cal_snapshot.specs.Parts.{rows_in}
use Rattle.cal_snapshot.proofs.Rows.{each-row}
use Rattle.row_exec.specs.Passes.{CanPass, passed}
use Rattle.row_exec.proofs.Passes.{row-of_pass, rows-turn}
use Rattle.row_exec.proofs.lent.pass_rows.Goals as goal

pub add_passed-requires : goal.add_passed-requires
add_passed-requires g c =
    each-row (CanPass c.args.pass.now) c.args.snapshot.now c.args.pass.now.table c.loop-at.at c.lend-row.result.now
    (row-of_pass c.args.snapshot.now _ c.args.pass.now c.loop-at.at c.lend-row.result.now c.pass.view_is c.lend-row.ensures.row) c.requires.ready

pub loop-at-preserved : goal.loop-at-preserved
loop-at-preserved g c = record {
  made =
      ap (λ (rows : List Row). rows ++ passed c.args.pass.now (drop (c.loop-at.at + 1) (rows_in c.args.snapshot.now c.args.pass.now.table))) c.in_ok-add_passed.ensures
      ∙ rows-turn c.args.snapshot.now c.args.pass.now c.args.pass.now.table c.loop-at.at c.loop-at.rows c.lend-row.result.now
      (row-of_pass c.args.snapshot.now _ c.args.pass.now c.loop-at.at c.lend-row.result.now c.pass.view_is c.lend-row.ensures.row)
      ∙ c.loop-at.invariant.made;
  stepped = omega (arith, c.lend-row.ensures.step, c.loop-at.invariant.stepped);
}
