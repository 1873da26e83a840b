use Rattle.std.proofs.Common.{length, None, sym, ap, ◌∙◌, arith, get_or}
use Rattle.cal_value.specs.declared.operator.Agg.TheVariants.{Count}
use Rattle.cal_schema.specs.declared.agg_call.AggCall.{AggCall}
use Rattle.agg_images.specs.AggregateRemove.{single_call}
use Rattle.rel_meta.proofs.KeySteps.{each-more, each-none}
use Rattle.rules_agg.proofs.remove.single_values.Goals as goal

pub returns-in_default : goal.returns-in_default
returns-in_default c =
    let e = c.as_slice-call-items.ensures in
    let d : AggCall = record { agg = Count; argument = None } in
    sym (each-none (single_call c.args.columns.now) c.args.calls.now c.loop-call.call-index d c.loop-call.values (omega (arith, ap length e))
    (ap (λ xs. single_call c.args.columns.now (get_or xs c.loop-call.call-index d)) (sym e) ∙ sym c.single_value.ensures ∙ c.in_default.is))
    ∙ c.loop-call.invariant

pub loop-call-preserved : goal.loop-call-preserved
loop-call-preserved c =
    let e = c.as_slice-call-items.ensures in
    let d : AggCall = record { agg = Count; argument = None } in
    rw c.in_ok-push.ensures.ok
    (each-more (single_call c.args.columns.now) c.args.calls.now c.loop-call.call-index d c.loop-call.values c.in-Some.value (omega (arith, ap length e))
    (ap (λ xs. single_call c.args.columns.now (get_or xs c.loop-call.call-index d)) (sym e) ∙ sym c.single_value.ensures ∙ c.in-Some.is)
    ∙ c.loop-call.invariant)
