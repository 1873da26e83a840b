use Rattle.std.proofs.Common.{◌≡◌, map, take}
use Rattle.exec_ops.specs.Sort.{ascending}
use Rattle.exec_ops.proofs.tests.right_keys.Given as goal

abbrev pub invariant-loop-pair : goal.invariant-loop-pair
invariant-loop-pair l = l.keys ≡ map ascending (map (λ p. p.right) (take l.pair-index l.pairs))
