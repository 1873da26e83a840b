use Rattle.std.proofs.Common.{◌≡◌}
use Rattle.sql_algebra.specs.Algebra.{group_at}
use Rattle.sql_translate.proofs.Places.{turn}
use Rattle.sql_translate.proofs.items.star_groups.Goals as goal

pub loop-at-preserved : goal.loop-at-preserved
loop-at-preserved c = turn (group_at c.args.layout.now) c.as_slice-at-items.result.now c.loop-at.at-index 0 c.loop-at.items c.push.new.self _ _ c.loop-at-test.true c.loop-at.invariant c.in_ok-group_column.ensures c.in_ok-push.ensures.ok
