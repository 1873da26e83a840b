use Rattle.std.proofs.Common.{◌∙◌, Some}
use Rattle.cal_rel.specs.Tree.{tree_of}
use Rattle.memo_model.specs.Steps.{entered}
use Rattle.memo_sets.specs.Seen.{sets_of, drafted}
use Rattle.memo_sets.proofs.RegisterSteps.{placed-done, merged-done, register-placed, answered-placed}
use Rattle.memo_sets.proofs.AnswerSteps.{placed-answer, merged-answer}
use Rattle.memo_sets.proofs.memo.Memo.registered.Goals as goal

pub returns-in_ok-finished-clause-done : goal.returns-in_ok-finished-clause-done
returns-in_ok-finished-clause-done c = λ sound may.
    placed-done c.args.info.now (sets_of c.args.self.now) (drafted c.args.self.now c.in_ok-draft.draft) (drafted c.args.self.now c.enter.new.self) (tree_of c.args.rel.now)
    c.in_ok-draft.ensures sound c.args.set c.in-Ok.found c.in-Ok.ensures may (sets_of c.take.new.self) c.if-found-set.true (c.take.ensures ∙ c.in_ok-finished.ensures)

pub returns-in_ok-finished-clause-answer : goal.returns-in_ok-finished-clause-answer
returns-in_ok-finished-clause-answer c = λ sound may.
    placed-answer c.args.info.now (sets_of c.args.self.now) (drafted c.args.self.now c.in_ok-draft.draft) (drafted c.args.self.now c.enter.new.self) (tree_of c.args.rel.now) c.args.set c.in-Ok.found
    c.in_ok-draft.ensures c.in-Ok.ensures sound may c.answer_in-answer.result c.if-found-set.true c.answer_in-answer.ensures

pub returns-in_ok-merge_sets-clause-done : goal.returns-in_ok-merge_sets-clause-done
returns-in_ok-merge_sets-clause-done c = λ sound may.
    merged-done c.args.info.now (sets_of c.args.self.now) (drafted c.args.self.now c.in_ok-draft.draft) (drafted c.args.self.now c.enter.new.self) (tree_of c.args.rel.now)
    c.in_ok-draft.ensures sound c.args.set c.in-Ok.found c.in-Ok.ensures may (sets_of c.in_ok-next.next) (sets_of c.merge_sets.new.self) c.in_ok-next.ensures c.if-found-set.false
    (c.in_ok-merge_sets.ensures.settles c.args.info.now) c.in_ok-merge_sets.ensures.unique

pub returns-in_ok-merge_sets-clause-answer : goal.returns-in_ok-merge_sets-clause-answer
returns-in_ok-merge_sets-clause-answer c = λ sound may.
    merged-answer c.args.info.now (sets_of c.args.self.now) (drafted c.args.self.now c.in_ok-draft.draft) (drafted c.args.self.now c.enter.new.self) (tree_of c.args.rel.now) c.args.set c.in-Ok.found
    c.in_ok-draft.ensures c.in-Ok.ensures sound may c.min.result c.max.result c.if-found-set.false c.min.ensures c.max.ensures

pub returns-in_ok-finished-clause-entered : goal.returns-in_ok-finished-clause-entered
returns-in_ok-finished-clause-entered c =
    let start = drafted c.args.self.now c.in_ok-draft.draft in
    let after = drafted c.args.self.now c.enter.new.self in
    let m = sets_of c.args.self.now in
    let new = sets_of c.take.new.self in
    let x = tree_of c.args.rel.now in
    answered-placed c.args.info.now m start after x c.in_ok-draft.ensures m.added c.args.set (entered c.args.info.now (Some c.args.set) x m) new c.answer_in-answer.result
    (register-placed c.args.info.now m start after x c.in_ok-draft.ensures c.args.set c.in-Ok.found new c.in-Ok.ensures (c.take.ensures ∙ c.in_ok-finished.ensures)) c.answer_in-answer.ensures
