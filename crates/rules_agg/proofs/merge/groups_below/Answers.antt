use Rattle.std.proofs.Common.{length, sym, ap, ◌∙◌, arith, get_or}
use Rattle.agg_images.specs.AggregateProjectMerge.{column_below}
use Rattle.rel_meta.proofs.KeySteps.{each-more, each-none}
use Rattle.rules_agg.proofs.merge.groups_below.Goals as goal

pub returns-in_default : goal.returns-in_default
returns-in_default c =
    let e = c.as_slice-group-items.ensures in
    sym (each-none (column_below c.args.items.now) c.args.groups.now c.loop-group.group-index 0 c.loop-group.below (omega (arith, ap length e))
    (ap (λ xs. column_below c.args.items.now (get_or xs c.loop-group.group-index 0)) (sym e) ∙ sym c.column_below.ensures ∙ c.in_default.is))
    ∙ c.loop-group.invariant

pub loop-group-preserved : goal.loop-group-preserved
loop-group-preserved c =
    let e = c.as_slice-group-items.ensures in
    rw c.in_ok-push.ensures.ok
    (each-more (column_below c.args.items.now) c.args.groups.now c.loop-group.group-index 0 c.loop-group.below c.in-Some.column (omega (arith, ap length e))
    (ap (λ xs. column_below c.args.items.now (get_or xs c.loop-group.group-index 0)) (sym e) ∙ sym c.column_below.ensures ∙ c.in-Some.is)
    ∙ c.loop-group.invariant)
