use Rattle.std.proofs.Common.{rules, ap}
use Rattle.turn_lock.proofs.SeatSteps.{joins, united}
use Rattle.turn_lock.proofs.WordSteps.{settles}
use Rattle.turn_lock.proofs.lock.Turn.unite.Goals as goal

pub join_seat-requires : goal.join_seat-requires
join_seat-requires g c = let s = c.requires.seats in (search rules, search rules, s.1.1, search rules, joins _ _ _ _ _ _ _ _ _ s.0.2 s.1.2 s.0.3)

pub load-requires : goal.load-requires
load-requires g c = (search rules, search rules, settles _ _ _ _ _ _ _ _ _ _ _ _ (ap (λ m. m.0.stage) c.join_seat.ensures.2))

pub returns : goal.returns
returns g c = let u = united g.M.Machine.actor c.args.seat.now.me.0 c.args.other.me.0 0 _ _ _ c.join_seat.ensures.2 c.requires.seats.0.1 c.load.ensures.2 in
    record { same = search rules; joint = u.joint; first = u.first; second = u.second; rise = u.rise; shares = u.shares; few = u.few }
