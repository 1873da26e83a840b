use Rattle.std.proofs.Common.{◌≡◌, take}
use Rattle.std.specs.List.{flat_map}
use Rattle.sql_meaning.specs.Bounds.{equated}
use Rattle.sql_types.proofs.bounds.equated_by.Given as goal

abbrev pub invariant-loop-tree : goal.invariant-loop-tree
invariant-loop-tree l = l.keys ≡ flat_map (equated l.scope l.width) (take l.tree-index l.trees)
