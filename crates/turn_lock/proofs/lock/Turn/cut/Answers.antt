use Rattle.std.proofs.Common.{rules}
use Rattle.turn_lock.proofs.SeatSteps.{splits}
use Rattle.turn_lock.proofs.lock.Turn.cut.Goals as goal

pub split_seat-requires : goal.split_seat-requires
split_seat-requires g c = (search rules, search rules, splits _ _ _ _ _ _ _ _ c.requires.seat.2 (search rules) (search rules))
