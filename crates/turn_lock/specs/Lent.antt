-- A turn, after a write through `machine`.
use Rattle.atomic_table.specs.Lent.{seat_with}
use Rattle.turn_lock.specs.declared.lock.Held.{Held}

abbrev pub held_with : {M E B : Type 0} → Held M E B → M → Held M E B
held_with h w = record h { seat = seat_with h.seat 0 w }
