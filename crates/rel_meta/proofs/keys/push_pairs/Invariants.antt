use Rattle.std.proofs.Common.{◌≡◌, ◌++◌, map, take}
use Rattle.rel_meta.specs.Keys.{shifted}
use Rattle.rel_meta.proofs.keys.push_pairs.Given as goal

abbrev pub invariant-loop-other : goal.invariant-loop-other
invariant-loop-other l = l.keys ≡ l.initial.keys ++ map (λ r. l.left ++ shifted l.width r) (take l.other-index l.right)
