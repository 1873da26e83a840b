use Rattle.std.proofs.Common.{rules}
use Rattle.turn_lock.specs.Kept.{machine_of}
use Rattle.turn_lock.proofs.InHand.{something, in_hand}
use Rattle.turn_lock.proofs.lock.Held.machine.Goals as goal

pub slot_mut-requires : goal.slot_mut-requires
slot_mut-requires g c = let slots = c.args.self.now.seat.me.1 in let x = something (machine_of slots) c.requires.held.1 in (search rules, (x.0, in_hand slots x.0 x.1))
