use Rattle.plan_nodes.proofs.PlanLemmas.{reads-end, reads-tree}
use Rattle.plan_nodes.proofs.plan.+plan_reads.Goals as goal

pub returns-clause-sum : goal.returns-clause-sum
returns-clause-sum t c =
    reads-end c.args.plan.now c.loop-input.total c.loop-input.input-index c.as_slice-inputs.result.now c.loop-input.invariant c.as_slice-inputs.ensures c.loop-input-test.false

pub returns-clause-tree : goal.returns-clause-tree
returns-clause-tree t c = λ tree e. reads-tree tree c.args.plan.now e
