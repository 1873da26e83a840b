use Rattle.std.proofs.Common.{drop}
use Rattle.plan_nodes.proofs.PlanLemmas.{inputs-none, inputs-one, inputs-two, cost-none, cost-one, cost-two}
use Rattle.plan_nodes.proofs.plan.+cost.Goals as goal

pub returns-in-empty : goal.returns-in-empty
returns-in-empty t c = cost-none c.args.plan.now c.weight.result (inputs-none c.args.plan.now c.as_slice.result.now c.as_slice.ensures c.in-empty.len_below) c.weight.ensures

pub returns-in-len1 : goal.returns-in-len1
returns-in-len1 t c =
    cost-one c.args.plan.now c.a-item.result c.more.result c.weight-in-len1.result c.cost.result
    (inputs-one c.args.plan.now c.a-item.result c.as_slice.result.now c.as_slice.ensures c.in-len1.len_at_least c.in-len1.len_below c.a-item.is)
    c.cost.ensures c.weight-in-len1.ensures c.more.ensures

pub returns-in-len2-up : goal.returns-in-len2-up
returns-in-len2-up t c =
    cost-two c.args.plan.now c.a-item-2.result c.b-item.result (drop 2 c.as_slice.result.now) c.more-in-len2-up.result c.weight-in-len2-up.result c.cost-in-len2-up.result c.cost-in-len2-up-2.result
    c.more-first.result (inputs-two c.args.plan.now c.a-item-2.result c.b-item.result c.as_slice.result.now c.as_slice.ensures c.in-len2-up.len_at_least c.a-item-2.is c.b-item.is)
    c.cost-in-len2-up.ensures c.cost-in-len2-up-2.ensures c.weight-in-len2-up.ensures c.more-first.ensures c.more-in-len2-up.ensures
