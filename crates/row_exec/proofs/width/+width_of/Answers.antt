use Rattle.std.proofs.Common.{drop}
use Rattle.std.proofs.lemmas.Result.{IfOk-weaker}
use Rattle.plan_nodes.proofs.PlanLemmas.{inputs-none, inputs-one, inputs-two}
use Rattle.row_exec.specs.Nodes.{HasWidth}
use Rattle.row_exec.proofs.Widths.{IsNodeWidth, width-none, width-one, width-two}
use Rattle.row_exec.proofs.width.+width_of.Goals as goal

pub returns-in-empty : goal.returns-in-empty
returns-in-empty t c =
    IfOk-weaker c.node_width.result (IsNodeWidth c.args.schema.now c.args.plan.now 0 0) (HasWidth c.args.schema.now c.args.plan.now)
    (λ n h. width-none c.args.schema.now c.args.plan.now n (inputs-none c.args.plan.now c.as_slice.result.now c.as_slice.ensures c.in-empty.len_below) h) c.node_width.ensures

pub returns-in_ok-left-in-len1 : goal.returns-in_ok-left-in-len1
returns-in_ok-left-in-len1 t c =
    let left = c.in_ok-left-in-len1.left in
    IfOk-weaker c.node_width-in-len1.result (IsNodeWidth c.args.schema.now c.args.plan.now left 0) (HasWidth c.args.schema.now c.args.plan.now)
    (λ n h.
    width-one c.args.schema.now c.args.plan.now c.a-item.result n left
    (inputs-one c.args.plan.now c.a-item.result c.as_slice.result.now c.as_slice.ensures c.in-len1.len_at_least c.in-len1.len_below c.a-item.is) c.in_ok-left-in-len1.ensures h) c.node_width-in-len1.ensures

pub returns-in_ok-right-in-len2-up : goal.returns-in_ok-right-in-len2-up
returns-in_ok-right-in-len2-up t c =
    let left = c.in_ok-left-in-len2-up.left in
    let right = c.in_ok-right-in-len2-up.right in
    IfOk-weaker c.node_width-in-len2-up.result (IsNodeWidth c.args.schema.now c.args.plan.now left right) (HasWidth c.args.schema.now c.args.plan.now)
    (λ n h.
    width-two c.args.schema.now c.args.plan.now c.a-item-2.result c.b-item.result (drop 2 c.as_slice.result.now) n left right
    (inputs-two c.args.plan.now c.a-item-2.result c.b-item.result c.as_slice.result.now c.as_slice.ensures c.in-len2-up.len_at_least c.a-item-2.is c.b-item.is)
    c.in_ok-left-in-len2-up.ensures c.in_ok-right-in-len2-up.ensures h) c.node_width-in-len2-up.ensures
