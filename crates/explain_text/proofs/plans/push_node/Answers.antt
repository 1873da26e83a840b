use Rattle.std.proofs.Common.{◌∙◌, ◌++◌, ap, sym, string_bytes}
use Rattle.std.proofs.lemmas.Result.{on_ok_weaker}
use Rattle.plan_nodes.specs.declared.nodes.PlanNode.{PlanNode}
use Rattle.explain_text.specs.Plans.{node_text}
use Rattle.explain_text.proofs.plans.push_node.Goals as goal

pub returns-in-NestedLoopJoin : goal.returns-in-NestedLoopJoin
returns-in-NestedLoopJoin c =
    on_ok_weaker c.push_join.result (λ e. e ∙ ap (λ (n : PlanNode). string_bytes c.args.out.now ++ node_text c.args.schema.now n) (sym c.in-NestedLoopJoin.is)) c.push_join.ensures
