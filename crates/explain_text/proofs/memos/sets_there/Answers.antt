use Rattle.std.proofs.Common.{sym, ◌∙◌}
use Rattle.explain_text.proofs.MemoSteps.{sets_with, sets_without}
use Rattle.explain_text.proofs.memos.sets_there.Goals.{then-is_some+in_ok-push, else-is_some}
use Rattle.explain_text.proofs.memos.sets_there.Goals as goal

pub loop-set-preserved : goal.loop-set-preserved
loop-set-preserved c =
    let x = c.index-types-set.result in
    elim c.if-is_some.branch [
      | then-is_some+in_ok-push w ↦ sets_with c.args.types.now c.loop-set.set x c.loop-set.sets c.if-is_some.sets c.loop-set-test.true c.index-types-set.is
          (sym c.is_some.ensures ∙ w.if-is_some.true) c.loop-set.invariant (w.sets-is ∙ w.in_ok-push.ensures.ok)
      | else-is_some w ↦ sets_without c.args.types.now c.loop-set.set x c.loop-set.sets c.if-is_some.sets c.loop-set-test.true c.index-types-set.is
          (sym c.is_some.ensures ∙ w.if-is_some.false) c.loop-set.invariant w.sets-is
    ]
