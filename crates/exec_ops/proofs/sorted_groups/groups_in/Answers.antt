use Rattle.std.proofs.Common.{arith}
use Rattle.exec_ops.proofs.SortedGroupLemmas.{group-step}
use Rattle.exec_ops.proofs.sorted_groups.groups_in.Goals as goal

pub loop-start-preserved : goal.loop-start-preserved
loop-start-preserved c =
    record {
      within = c.end_of_group-end.ensures.within;
      made = group-step c.args.groups.now c.args.calls.now c.args.rows.now c.loop-start.made c.loop-start.start c.end_of_group-end.result _ c.push.new.self c.in_ok-row.row c.requires.sorted (omega arith) c.end_of_group-end.ensures.end c.loop-start.invariant.made c.in_ok-row.ensures c.in_ok-push.ensures.ok;
    }
