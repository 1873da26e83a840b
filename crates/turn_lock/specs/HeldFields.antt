-- How the private fields of a turn are read.
use Rattle.std.specs.Prelude.{ℕ, IsSome}
use Rattle.atomic_table.specs.Table.{rest}
use Rattle.turn_lock.specs.declared.lock.Held.{Held}
use Rattle.turn_lock.specs.Held.{Holding}
use Rattle.turn_lock.specs.Kept.{HasTurn, known_in_turn, machine_of}
use Rattle.turn_lock.specs.Views.{committed_of}

abbrev pub holding : {M E B : Type 0} → Held M E B → Holding M E B
holding h = let v = h.seat.me.0 in record {
  entered = h.pass.value;
  pass = known_in_turn h.seat.table_id h.pass.value.base v;
  committed = committed_of v.stage;
  machine = machine_of h.seat.me.1;
}

-- it is a turn of its lock, with the machine
abbrev pub IsHeld : {M E B : Type 0} → (E → ℕ) → Held M E B → Type 0
IsHeld actor h = HasTurn actor h.turn.now h.seat.table_id h.pass.value h.seat.me.0 (rest h.seat.me.1) h.shares × IsSome (machine_of h.seat.me.1)
