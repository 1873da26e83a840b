use Rattle.std.proofs.Common.{length, sym, ap, ◌∙◌, arith, get_or}
use Rattle.rel_meta.specs.Keys.{place_of}
use Rattle.rel_meta.proofs.KeySteps.{each-more, each-none}
use Rattle.rel_meta.proofs.keys.placed_key.Goals as goal

pub returns-in_default : goal.returns-in_default
returns-in_default c =
    let e = c.as_slice-column-items.ensures in
    sym (each-none (place_of c.args.items.now) c.args.key.now c.loop-column.column-index 0 c.loop-column.placed (omega (arith, ap length e))
    (ap (λ xs. place_of c.args.items.now (get_or xs c.loop-column.column-index 0)) (sym e) ∙ sym c.in_ok-at.ensures ∙ c.in_default.is))
    ∙ c.loop-column.invariant

pub loop-column-preserved : goal.loop-column-preserved
loop-column-preserved c =
    let e = c.as_slice-column-items.ensures in
    rw c.in_ok-push.ensures.ok (each-more (place_of c.args.items.now) c.args.key.now c.loop-column.column-index 0 c.loop-column.placed c.in-Some.at (omega (arith, ap length e))
    (ap (λ xs. place_of c.args.items.now (get_or xs c.loop-column.column-index 0)) (sym e) ∙ sym c.in_ok-at.ensures ∙ c.in-Some.is) ∙ c.loop-column.invariant)
