use Rattle.std.proofs.Common.{rules}
use Rattle.turn_lock.proofs.WordSteps.{looks}
use Rattle.turn_lock.proofs.lock.Turn.look.Goals as goal

pub load-requires : goal.load-requires
load-requires g c = (search rules, search rules, looks _ _ _ _ _ _ _ c.requires.waits.0 _ c.requires.waits.2)
