use Rattle.std.proofs.Common.{◌++◌, ◌+◌, ◌-◌, ◌∷◌, [], sym, ◌∙◌, ap, append_assoc, arith}
use Rattle.std.specs.List.{range_with_len}
use Rattle.rules_join.proofs.RangeSteps.{range-next}
use Rattle.rules_join.proofs.columns.push_columns.Goals as goal

pub loop-at-preserved : goal.loop-at-preserved
loop-at-preserved c =
    let below = c.loop-at-test.true in
    ap (λ columns. columns ++ range_with_len (c.loop-at.at + 1) (c.args.end - (c.loop-at.at + 1))) c.in_ok-push.ensures.ok
    ∙ append_assoc c.loop-at.columns (c.loop-at.at ∷ []) (range_with_len (c.loop-at.at + 1) (c.args.end - (c.loop-at.at + 1)))
    ∙ ap (λ more. c.loop-at.columns ++ more) (sym (range-next c.loop-at.at c.args.end (omega arith)))
    ∙ c.loop-at.invariant
