use Rattle.std.proofs.Common.{◌≡◌, [], IfOk, subst, sym, ◌∙◌}
use Rattle.std.proofs.lemmas.Result.{IfOk-weaker}
use Rattle.exec_ops.specs.Group.{group_rows}
use Rattle.plan_nodes.specs.declared.nodes.PlanNode.{PlanNode}
use Rattle.plan_nodes.specs.declared.nodes.PlanNode.TheVariants.{HashAggregate, SortedAggregate}
use Rattle.row_exec.specs.Nodes.{IsMade}
use Rattle.row_exec.proofs.SameRows.{group-same}
use Rattle.row_exec.proofs.one_input.one_input.Goals as goal

pub returns-in-HashAggregate : goal.returns-in-HashAggregate
returns-in-HashAggregate c =
    let groups = c.in-HashAggregate.groups in
    let calls = c.in-HashAggregate.calls in
    subst (λ (node : PlanNode). IfOk c.hash_group.result (IsMade node 0 c.args.rows [])) (sym c.in-HashAggregate.is)
    (IfOk-weaker c.hash_group.result (λ made. made ≡ group_rows groups calls c.args.rows) (IsMade (HashAggregate groups calls) 0 c.args.rows [])
    (λ made e info db. e ∙ sym (group-same groups calls c.args.rows)) c.hash_group.ensures)

pub returns-in-SortedAggregate : goal.returns-in-SortedAggregate
returns-in-SortedAggregate c =
    let groups = c.in-SortedAggregate.groups in
    let calls = c.in-SortedAggregate.calls in
    subst (λ (node : PlanNode). IfOk c.sorted_group.result (IsMade node 0 c.args.rows [])) (sym c.in-SortedAggregate.is)
    (IfOk-weaker c.sorted_group.result (λ made. made ≡ group_rows groups calls c.args.rows) (IsMade (SortedAggregate groups calls) 0 c.args.rows [])
    (λ made e info db. e ∙ sym (group-same groups calls c.args.rows)) c.sorted_group.ensures)
