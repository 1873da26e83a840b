use Rattle.std.proofs.Common.{length, sym, ap, ◌∙◌, arith, get_or}
use Rattle.cal_expr.specs.Typing as expressions
use Rattle.cal_rel.proofs.TypeSteps.{types_by-none, types_by-more, types_by-all}
use Rattle.cal_rel.proofs.typing.item_types.Goals as goal

pub returns-in_default : goal.returns-in_default
returns-in_default c =
    let e = c.as_slice-item-items.ensures in
    sym (types_by-none (λ item. expressions.type_of item c.args.columns.now) c.args.items.now c.loop-item.item-index c.item-item.result (omega (arith, ap length e)) (ap (λ i. expressions.type_of i c.args.columns.now) (sym (c.item-item.is ∙ ap (λ xs. get_or xs c.loop-item.item-index c.item-item.result) e)) ∙ sym c.expr_type.ensures ∙ c.in_default.is))

pub loop-item-preserved : goal.loop-item-preserved
loop-item-preserved c =
    let e = c.as_slice-item-items.ensures in
    let more = types_by-more (λ item. expressions.type_of item c.args.columns.now) c.args.items.now c.loop-item.item-index c.item-item.result c.in-Some.t c.loop-item.types (omega (arith, ap length e)) (ap (λ i. expressions.type_of i c.args.columns.now) (sym (c.item-item.is ∙ ap (λ xs. get_or xs c.loop-item.item-index c.item-item.result) e)) ∙ sym c.expr_type.ensures ∙ c.in-Some.is) c.loop-item.invariant in
    rw c.in_ok-push.ensures.ok more

pub returns : goal.returns
returns c = let e = c.as_slice-item-items.ensures in sym (types_by-all (λ item. expressions.type_of item c.args.columns.now) c.args.items.now c.loop-item.item-index c.loop-item.types (omega (arith, ap length e)) c.loop-item.invariant)
