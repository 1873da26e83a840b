use Rattle.std.proofs.Common.{◌≡◌, ◌++◌, map, drop}
use Rattle.cal_rel.specs.Places.{replaced}
use Rattle.cal_rel.specs.Tree.{tree_of}
use Rattle.search_firings.proofs.bindings.add_with.Given as goal

abbrev pub invariant-loop-input : goal.invariant-loop-input
invariant-loop-input l =
    map tree_of l.all ++ map (replaced (tree_of l.node) l.path) (map tree_of (drop l.input-index l.inputs))
    ≡ map tree_of l.fn.all ++ map (replaced (tree_of l.node) l.path) (map tree_of l.inputs)
