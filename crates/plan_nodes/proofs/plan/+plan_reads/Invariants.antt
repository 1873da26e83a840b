use Rattle.std.proofs.Common.{◌≡◌, ◌+◌, ◌-◌, ◌^◌, take}
use Rattle.std.specs.Prelude.{min, sum_by}
use Rattle.plan_nodes.specs.declared.plan.Plan.{out-Plan}
use Rattle.plan_nodes.specs.Seen.{reads}
use Rattle.plan_nodes.proofs.plan.+plan_reads.Given as goal

abbrev pub invariant-loop-input : goal.invariant-loop-input
invariant-loop-input l = l.total ≡ min ((out-Plan l.plan).part_rows + sum_by reads (take l.input-index l.inputs)) (2 ^ 128 - 1)
