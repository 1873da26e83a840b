use Rattle.std.proofs.Common.{◌≡◌, ◌++◌, drop, map, All, IsSome}
use Rattle.cal_expr.specs.Typing.{type_of}
use Rattle.project_images.specs.ReduceExpressions.{reduced}
use Rattle.rules_project.proofs.reductions.all_reduced.Given as goal

abbrev pub invariant-loop-item : goal.invariant-loop-item
invariant-loop-item l =
    (l.made ++ map reduced (drop l.item-index l.items) ≡ map reduced l.items)
    × All (λ item. IsSome (type_of item l.columns)) (drop l.item-index l.items)
