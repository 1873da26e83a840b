use Rattle.std.proofs.Common.{drop}
use Rattle.plan_nodes.proofs.PlanLemmas.{inputs-none}
use Rattle.plan_scans.proofs.Chained.{chain-none, chain-first, inputs-first}
use Rattle.plan_scans.proofs.chain.+chain_of.Goals as goal

pub returns-in-empty : goal.returns-in-empty
returns-in-empty t c = chain-none c.args.plan.now c.chained.result (inputs-none c.args.plan.now c.as_slice.result.now c.as_slice.ensures c.in-empty.len_below) c.chained.ensures

pub returns-in-len1-up : goal.returns-in-len1-up
returns-in-len1-up t c =
    chain-first c.args.plan.now c.input-item.result (drop 1 c.as_slice.result.now) c.chained-in-len1-up.result c.chain_of.result
    (inputs-first c.args.plan.now c.input-item.result c.as_slice.result.now c.as_slice.ensures c.in-len1-up.len_at_least c.input-item.is)
    c.chain_of.ensures c.chained-in-len1-up.ensures
