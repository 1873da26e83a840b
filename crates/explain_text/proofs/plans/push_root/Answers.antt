use Rattle.std.proofs.Common.{string_bytes}
use Rattle.explain_text.proofs.PlanSteps.{root-printed}
use Rattle.explain_text.proofs.plans.push_root.Goals as goal

pub returns : goal.returns
returns c = λ tree e.
    root-printed c.push_numbers.result c.args.schema.now c.args.margin.now (string_bytes c.args.out.now) (string_bytes c.push_str.new.self) (string_bytes c.push_node.new.out)
    (string_bytes c.push_numbers.new.out) c.args.plan.now c.cost.result tree c.in_ok-push_str.ensures.bytes c.in_ok-push_node.ensures c.cost.ensures c.push_numbers.ensures e
