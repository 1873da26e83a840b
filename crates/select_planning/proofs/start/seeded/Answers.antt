use Rattle.cal_rel.specs.Tree.{tree_of}
use Rattle.memo_model.specs.Sets.{Sets}
use Rattle.memo_sets.specs.Answers.{IsSeeded}
use Rattle.memo_sets.specs.Seen.{sets_of}
use Rattle.std.proofs.Common.{subst}
use Rattle.select_planning.proofs.StartLemmas.{is-started}
use Rattle.select_planning.proofs.start.seeded.Goals as goal

pub returns-in-Ok : goal.returns-in-Ok
returns-in-Ok c =
    let S : Sets → Type 0 = λ m. IsSeeded c.args.info.now m (sets_of c.seed.new.self) (tree_of c.args.tree.now) c.in-Ok.set in
    is-started c.args.info.now (tree_of c.args.tree.now) (sets_of c.seed.new.self) c.in-Ok.set c.requires.sets c.requires.well_formed c.requires.no_hole
    (subst S c.new-memo.ensures.empty c.in-Ok.ensures.done)
