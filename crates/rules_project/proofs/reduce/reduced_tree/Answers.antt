use Rattle.std.proofs.Common.{sym, ◌∙◌, ap}
use Rattle.cal_rel.specs.Tree.{tree_of}
use Rattle.cal_rel.specs.Typing.{type_of}
use Rattle.rules_project.proofs.ReducedSteps.{items-typed}
use Rattle.rules_project.proofs.reduce.reduced_tree.Goals as goal

pub all_reduced-requires : goal.all_reduced-requires
all_reduced-requires c =
    items-typed c.args.info.now c.args.rel.now c.in-Project.input c.in-Project.items c.in-Some-2.t c.in-Project.is
    (ap (λ x. type_of c.args.info.now (tree_of x)) (sym c.get-in-Project.ensures) ∙ sym c.in_ok-t-in-Project.ensures ∙ c.in-Some-2.is) c.requires
