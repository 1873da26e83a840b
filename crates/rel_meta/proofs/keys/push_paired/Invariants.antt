use Rattle.std.proofs.Common.{◌≡◌, ◌++◌, drop}
use Rattle.rel_meta.specs.Keys.{paired}
use Rattle.rel_meta.proofs.keys.push_paired.Given as goal

abbrev pub invariant-loop-key : goal.invariant-loop-key
invariant-loop-key l = l.keys ++ paired l.width (drop l.key-index l.left) l.right ≡ l.initial.keys ++ paired l.width l.left l.right
