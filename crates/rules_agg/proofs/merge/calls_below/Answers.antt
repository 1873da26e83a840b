use Rattle.std.proofs.Common.{length, None, sym, ap, ◌∙◌, arith, get_or}
use Rattle.cal_value.specs.declared.operator.Agg.TheVariants.{Count}
use Rattle.cal_schema.specs.declared.agg_call.AggCall.{AggCall}
use Rattle.agg_images.specs.AggregateProjectMerge.{call_below}
use Rattle.rel_meta.proofs.KeySteps.{each-more, each-none}
use Rattle.rules_agg.proofs.merge.calls_below.Goals as goal

pub returns-in_default : goal.returns-in_default
returns-in_default c =
    let e = c.as_slice-call-items.ensures in
    let d : AggCall = record { agg = Count; argument = None } in
    sym (each-none (call_below c.args.items.now) c.args.calls.now c.loop-call.call-index d c.loop-call.below (omega (arith, ap length e))
    (ap (λ xs. call_below c.args.items.now (get_or xs c.loop-call.call-index d)) (sym e) ∙ sym c.call_below.ensures ∙ c.in_default.is))
    ∙ c.loop-call.invariant

pub loop-call-preserved : goal.loop-call-preserved
loop-call-preserved c =
    let e = c.as_slice-call-items.ensures in
    let d : AggCall = record { agg = Count; argument = None } in
    rw c.in_ok-push.ensures.ok
    (each-more (call_below c.args.items.now) c.args.calls.now c.loop-call.call-index d c.loop-call.below c.in-Some.call (omega (arith, ap length e))
    (ap (λ xs. call_below c.args.items.now (get_or xs c.loop-call.call-index d)) (sym e) ∙ sym c.call_below.ensures ∙ c.in-Some.is)
    ∙ c.loop-call.invariant)
