use Rattle.std.proofs.Common.{◌∙◌}
use Rattle.cal_rel.specs.Tree.{tree_of}
use Rattle.memo_sets.specs.Seen.{sets_of, drafted}
use Rattle.memo_sets.proofs.RegisterSteps.{seed-done, seed-placed}
use Rattle.memo_sets.proofs.memo.Memo.seeded.Goals as goal

pub returns-clause-done : goal.returns-clause-done
returns-clause-done c = λ sound.
    seed-done c.args.info.now (sets_of c.args.self.now) (drafted c.args.self.now c.in_ok-draft.draft) (drafted c.args.self.now c.enter.new.self) (tree_of c.args.rel.now)
    c.in_ok-draft.ensures sound c.in-Ok.set (sets_of c.take.new.self) c.in-Ok.ensures (c.take.ensures ∙ c.in_ok-finished.ensures)

pub returns-clause-entered : goal.returns-clause-entered
returns-clause-entered c =
    seed-placed c.args.info.now (sets_of c.args.self.now) (drafted c.args.self.now c.in_ok-draft.draft) (drafted c.args.self.now c.enter.new.self) (tree_of c.args.rel.now)
    c.in_ok-draft.ensures c.in-Ok.set (sets_of c.take.new.self) c.in-Ok.ensures (c.take.ensures ∙ c.in_ok-finished.ensures)
