use Rattle.std.proofs.Common.{◌≡◌, ◌++◌, take}
use Rattle.rel_meta.specs.Keys.{shifted}
use Rattle.rel_meta.proofs.keys.with_shifted.Given as goal

abbrev pub invariant-loop-column : goal.invariant-loop-column
invariant-loop-column l = l.key ≡ l.left ++ shifted l.width (take l.column-index l.right)
