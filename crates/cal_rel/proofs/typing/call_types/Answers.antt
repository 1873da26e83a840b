use Rattle.std.proofs.Common.{length, None, sym, ap, ◌∙◌, arith, get_or}
use Rattle.cal_value.specs.declared.operator.Agg.TheVariants.{Count}
use Rattle.cal_rel.specs.Typing.{call_type}
use Rattle.cal_rel.proofs.TypeSteps.{types_by-none, types_by-more, types_by-all}
use Rattle.cal_rel.proofs.typing.call_types.Goals as goal

pub returns-in_default : goal.returns-in_default
returns-in_default c =
    let e = c.as_slice-call-items.ensures in
    sym (types_by-none (call_type c.args.columns.now c.args.rows) c.args.calls.now c.loop-call.call-index (record { agg = Count; argument = None }) (omega (arith, ap length e)) (ap (λ xs. call_type c.args.columns.now c.args.rows (get_or xs c.loop-call.call-index (record { agg = Count; argument = None }))) (sym e) ∙ sym c.call_type.ensures ∙ c.in_default.is))

pub loop-call-preserved : goal.loop-call-preserved
loop-call-preserved c =
    let e = c.as_slice-call-items.ensures in
    let more = types_by-more (call_type c.args.columns.now c.args.rows) c.args.calls.now c.loop-call.call-index (record { agg = Count; argument = None }) c.in-Some.t c.loop-call.types (omega (arith, ap length e)) (ap (λ xs. call_type c.args.columns.now c.args.rows (get_or xs c.loop-call.call-index (record { agg = Count; argument = None }))) (sym e) ∙ sym c.call_type.ensures ∙ c.in-Some.is) c.loop-call.invariant in
    rw c.in_ok-push.ensures.ok more

pub returns : goal.returns
returns c = let e = c.as_slice-call-items.ensures in sym (types_by-all (call_type c.args.columns.now c.args.rows) c.args.calls.now c.loop-call.call-index c.loop-call.types (omega (arith, ap length e)) c.loop-call.invariant)
