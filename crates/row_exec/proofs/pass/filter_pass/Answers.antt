use Rattle.plan_nodes.proofs.PlanLemmas.{inputs-one}
use Rattle.row_exec.proofs.Passes.{pass-Filter}
use Rattle.row_exec.proofs.pass.filter_pass.Goals as goal

pub returns-in_ok-table-in-len1-clause-plan : goal.returns-in_ok-table-in-len1-clause-plan
returns-in_ok-table-in-len1-clause-plan c =
    let one = inputs-one c.args.plan.now c.input-item.result c.as_slice.result.now c.as_slice.ensures c.in-len1.len_at_least c.in-len1.len_below c.input-item.is in
    pass-Filter c.args.plan.now c.input-item.result c.in_ok-table-in-len1.table c.in-Filter.predicate c.in-Filter.is one c.in_ok-table-in-len1.ensures
