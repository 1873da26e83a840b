use Rattle.std.proofs.Common.{◌+◌, ◌++◌, List, drop, ap, ◌∙◌, arith}
use Rattle.cal_value.specs.declared.value.Value.{Value}
use Rattle.cal_snapshot.specs.Parts.{rows_in}
use Rattle.adapters.specs.Scan.{scanned}
use Rattle.adapters.proofs.ScanLemmas.{scan-step}
use Rattle.adapters.proofs.walk.walk.Goals as goal

pub loop-at-preserved : goal.loop-at-preserved
loop-at-preserved g c = (
  ap (λ (rows : List (List Value)). rows ++ scanned c.args.request.now (drop (c.loop-at.at + 1) (rows_in c.args.snapshot.now c.args.table))) c.in_ok-add_if_wanted.ensures
      ∙ scan-step c.args.snapshot.now c.args.table c.loop-at.at c.args.request.now c.loop-at.rows c.lend-row.result.now c.lend-row.ensures.row
      ∙ c.loop-at.invariant.0,
  omega (arith, c.lend-row.ensures.step),
)
