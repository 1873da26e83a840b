use Rattle.std.proofs.Common.{◌≡◌, ◌++◌, map, drop}
use Rattle.std.specs.List.{flat_map}
use Rattle.cal_rel.specs.Tree.{tree_of}
use Rattle.search_model.specs.Listed.{firsts}
use Rattle.search_firings.specs.Seen.{nodes_of}
use Rattle.search_firings.proofs.bindings.deep.Given as goal

abbrev pub invariant-loop-input : goal.invariant-loop-input
invariant-loop-input l =
    map tree_of l.all ++ flat_map (firsts (nodes_of l.nodes)) (map tree_of (drop l.input-index l.inputs))
    ≡ flat_map (firsts (nodes_of l.nodes)) (map tree_of l.inputs)
