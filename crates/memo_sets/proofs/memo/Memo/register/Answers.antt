use Rattle.cal_rel.specs.Tree.{tree_of}
use Rattle.memo_sets.specs.Seen.{sets_of}
use Rattle.memo_sets.proofs.RegisterSteps.{register-premises}
use Rattle.memo_sets.proofs.memo.Memo.register.Goals as goal

pub returns-clause-done : goal.returns-clause-done
returns-clause-done c =
    register-premises c.args.info.now (sets_of c.args.self.now) (sets_of c.registered.new.self) (tree_of c.args.rel.now) c.args.set c.registered.result c.requires.sound c.requires.may c.registered.ensures.done
