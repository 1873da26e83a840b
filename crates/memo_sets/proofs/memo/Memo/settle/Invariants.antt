use Rattle.std.proofs.Common.{List, length}
use Rattle.cal_rel.specs.Info.{Info}
use Rattle.memo_model.specs.Sound.{IsCoherent}
use Rattle.memo_model.specs.Relations.{Settles}
use Rattle.memo_sets.specs.Seen.{sets_of, HasRoom}
use Rattle.memo_sets.proofs.memo.Memo.settle.Given as goal

abbrev pub invariant-loop-i : goal.invariant-loop-i
invariant-loop-i l = record {
  settles : (info : Info) → IsCoherent info (sets_of l.fn.self) → Settles info (sets_of l.fn.self) (sets_of l.self);
  room : HasRoom (sets_of l.fn.self) → HasRoom (sets_of l.self);
}

abbrev pub decreases-loop-i : goal.decreases-loop-i
decreases-loop-i l = length (sets_of l.self).members
