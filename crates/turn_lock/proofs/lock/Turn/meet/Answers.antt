use Rattle.std.proofs.Common.{rules}
use Rattle.turn_lock.proofs.WordSteps.{meets}
use Rattle.turn_lock.proofs.Stages.{is_idle}
use Rattle.turn_lock.proofs.lock.Turn.meet.Goals as goal

pub load-requires : goal.load-requires
load-requires g c = (search rules, search rules, meets _ _ _ _ _ _ _ _ (is_idle _ c.pass.invariant.idle))
