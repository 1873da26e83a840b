use Rattle.std.proofs.Common.{◌≡◌, ◌++◌, map, drop}
use Rattle.cal_rel.specs.Tree.{tree_of}
use Rattle.search_firings.specs.Steps.{pairs}
use Rattle.search_firings.proofs.bindings.add_pairs.Given as goal

abbrev pub invariant-loop-left : goal.invariant-loop-left
invariant-loop-left l =
    map tree_of l.all ++ pairs (tree_of l.node) (map tree_of (drop l.left-index l.lefts)) (map tree_of l.rights)
    ≡ map tree_of l.fn.all ++ pairs (tree_of l.node) (map tree_of l.lefts) (map tree_of l.rights)
