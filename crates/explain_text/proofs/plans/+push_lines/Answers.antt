use Rattle.std.proofs.Common.{◌∙◌, drop, string_bytes}
use Rattle.plan_nodes.proofs.PlanLemmas.{inputs-none, inputs-one, inputs-two}
use Rattle.explain_text.proofs.PlanSteps.{lines-none, lines-one, lines-two}
use Rattle.explain_text.proofs.plans.+push_lines.Goals as goal

pub returns-in-empty : goal.returns-in-empty
returns-in-empty t c = λ tree e.
    lines-none c.args.schema.now c.args.margin.now (string_bytes c.args.out.now) (string_bytes c.push_root.new.out) c.args.plan.now tree
    (inputs-none c.args.plan.now c.as_slice.result.now c.as_slice.ensures c.in-empty.len_below) (c.in_ok-push_root.ensures tree e) e

pub returns-in-len1 : goal.returns-in-len1
returns-in-len1 t c = λ tree e.
    lines-one c.push_lines.result c.args.schema.now c.args.margin.now c.as_str-inner.result.now (string_bytes c.args.out.now) (string_bytes c.push_root.new.out)
    (string_bytes c.push_lines.new.out) c.args.plan.now c.a-item.result tree
    (inputs-one c.args.plan.now c.a-item.result c.as_slice.result.now c.as_slice.ensures c.in-len1.len_at_least c.in-len1.len_below c.a-item.is)
    (c.as_str-inner.ensures.value ∙ c.in_ok-deeper.ensures) (c.in_ok-push_root.ensures tree e) c.push_lines.ensures e

pub returns : goal.returns
returns t c = λ tree e.
    lines-two c.push_lines-in-len2-up-2.result c.args.schema.now c.args.margin.now c.as_str-inner.result.now (string_bytes c.args.out.now) (string_bytes c.push_root.new.out)
    (string_bytes c.push_lines-in-len2-up.new.out) (string_bytes c.push_lines-in-len2-up-2.new.out) c.args.plan.now c.a-item-2.result c.b-item.result (drop 2 c.as_slice.result.now) tree
    (inputs-two c.args.plan.now c.a-item-2.result c.b-item.result c.as_slice.result.now c.as_slice.ensures c.in-len2-up.len_at_least c.a-item-2.is c.b-item.is)
    (c.as_str-inner.ensures.value ∙ c.in_ok-deeper.ensures) (c.in_ok-push_root.ensures tree e) c.in_ok-push_lines-in-len2-up.ensures c.push_lines-in-len2-up-2.ensures e
