use Rattle.std.proofs.Common.{◌+◌, ◌++◌, List, drop, ap, ◌∙◌, arith}
use Rattle.cal_rel.specs.Operators.{Row}
use Rattle.plan_scans.specs.Chains.{rows_held}
use Rattle.plan_scans.proofs.Held.{tile-step}
use Rattle.plan_scans.proofs.scan.tile_rows.Goals as goal

pub loop-at-preserved : goal.loop-at-preserved
loop-at-preserved g c = (
  ap (λ (rows : List Row). rows ++ drop (c.loop-at.at + 1) (rows_held c.args.snapshot.now c.args.tile)) c.in_ok-push.ensures.ok
      ∙ tile-step c.args.snapshot.now c.args.tile c.loop-at.at c.loop-at.rows c.in_ok-row.row c.in_ok-row.ensures.row
      ∙ c.loop-at.invariant.0,
  omega (arith, c.take.ensures.step),
)
