use Rattle.std.proofs.Common.{◌≡◌, ◌++◌, take, map}
use Rattle.cal_rel.specs.Typing.{nullable}
use Rattle.cal_rel.proofs.typing.padded.Given as goal

abbrev pub invariant-loop-t : goal.invariant-loop-t
invariant-loop-t l = l.types ≡ l.initial.types ++ map nullable (take l.t-index l.more)
