use Rattle.phys_plan.specs.Seen.{space_of}
use Rattle.volcano_best.proofs.AnswerLemmas.{answer-there}
use Rattle.volcano_best.proofs.planned.best.Goals as goal

pub unwrap-requires : goal.unwrap-requires
unwrap-requires c =
    answer-there (space_of c.args.space.now) c.args.root c.args.order.now c.in_ok-found.found c.requires.widths c.requires.tree c.in_ok-found.ensures
