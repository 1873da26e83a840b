use Rattle.cal_rel.specs.Tree.{tree_of}
use Rattle.memo_model.specs.Sound.{IsSound}
use Rattle.memo_sets.specs.Answers.{IsSeeded}
use Rattle.memo_sets.specs.Seen.{sets_of}
use Rattle.memo_sets.proofs.RegisterSteps.{seed-premise}
use Rattle.memo_sets.proofs.memo.Memo.seed.Goals as goal

pub returns-clause-done : goal.returns-clause-done
returns-clause-done c =
    seed-premise c.args.info.now (sets_of c.args.self.now) (sets_of c.seeded.new.self) (tree_of c.args.rel.now) c.seeded.result c.requires c.seeded.ensures.done
