use Rattle.std.proofs.Common.{drop}
use Rattle.std.proofs.lemmas.Result.{IfOk-weaker}
use Rattle.plan_nodes.specs.declared.given.Shape.{Shape}
use Rattle.plan_nodes.specs.declared.plan.Plan.{out-Plan}
use Rattle.plan_nodes.specs.Seen.{IsGiven, IsOver}
use Rattle.plan_nodes.proofs.PlanLemmas.{inputs-none, inputs-one, inputs-two, given-none, given-one, given-two}
use Rattle.plan_nodes.proofs.given.+shape_of.Goals as goal

pub returns-in-empty : goal.returns-in-empty
returns-in-empty t c =
    IfOk-weaker c.over.result
    (λ (g : Shape). IsOver c.args.info.now (out-Plan c.args.plan.now).node c.nothing.result.width c.nothing.result.order 0 g.width g.order)
    (λ (g : Shape). IsGiven c.args.info.now c.args.plan.now g.width g.order)
    (λ (g : Shape) h.
    given-none c.args.info.now c.args.plan.now g.width c.nothing.result.width g.order c.nothing.result.order
    (inputs-none c.args.plan.now c.as_slice.result.now c.as_slice.ensures c.in-empty.len_below) c.nothing.ensures.width c.nothing.ensures.order h)
    c.over.ensures

pub returns-in_ok-left-in-len1 : goal.returns-in_ok-left-in-len1
returns-in_ok-left-in-len1 t c =
    let left = c.in_ok-left-in-len1.left in
    IfOk-weaker c.over-in-len1.result
    (λ (g : Shape). IsOver c.args.info.now (out-Plan c.args.plan.now).node left.width left.order 0 g.width g.order)
    (λ (g : Shape). IsGiven c.args.info.now c.args.plan.now g.width g.order)
    (λ (g : Shape) h.
    given-one c.args.info.now c.args.plan.now c.a-item.result g.width left.width g.order left.order
    (inputs-one c.args.plan.now c.a-item.result c.as_slice.result.now c.as_slice.ensures c.in-len1.len_at_least c.in-len1.len_below c.a-item.is)
    c.in_ok-left-in-len1.ensures h)
    c.over-in-len1.ensures

pub returns-in_ok-right-in-len2-up : goal.returns-in_ok-right-in-len2-up
returns-in_ok-right-in-len2-up t c =
    let left = c.in_ok-left-in-len2-up.left in
    let right = c.in_ok-right-in-len2-up.right in
    IfOk-weaker c.over-in-len2-up.result
    (λ (g : Shape). IsOver c.args.info.now (out-Plan c.args.plan.now).node left.width left.order right.width g.width g.order)
    (λ (g : Shape). IsGiven c.args.info.now c.args.plan.now g.width g.order)
    (λ (g : Shape) h.
    given-two c.args.info.now c.args.plan.now c.a-item-2.result c.b-item.result (drop 2 c.as_slice.result.now) g.width left.width right.width g.order left.order right.order
    (inputs-two c.args.plan.now c.a-item-2.result c.b-item.result c.as_slice.result.now c.as_slice.ensures c.in-len2-up.len_at_least c.a-item-2.is c.b-item.is)
    c.in_ok-left-in-len2-up.ensures c.in_ok-right-in-len2-up.ensures h)
    c.over-in-len2-up.ensures
