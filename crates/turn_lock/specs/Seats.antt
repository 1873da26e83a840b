-- What the lock's own functions ask and say of a seat.
use Rattle.std.specs.Prelude.{◌≡◌, ℕ, ◌%◌, ◌^◌, []}
use Rattle.atomic_table.specs.Seated.{TableId}
use Rattle.atomic_table.specs.declared.shared.Seat.{Seat}
use Rattle.turn_lock.specs.declared.views.View.{View}
use Rattle.turn_lock.specs.declared.views.Stage.TheVariants.{Idle, Waiting}
use Rattle.turn_lock.specs.Views.{IsLive}
use Rattle.turn_lock.specs.Steps.{SeatState}

module _ {M E B : Type 0} where
  -- a seat of this table that waits for nothing and has nothing in hand
  abbrev pub Rests : TableId → Seat M (View E B) → Type 0
  Rests t s = (s.table_id ≡ t) × (s.me.1 ≡ []) × (s.me.0.stage ≡ Idle) × IsLive s.me.0

  abbrev pub IsSame : Seat M (View E B) → Seat M (View E B) → Type 0
  IsSame s t = (t.table_id ≡ s.table_id) × (t.id ≡ s.id)

  -- the seat waits with this ticket
  abbrev pub Waits : ℕ → SeatState M E B → Type 0
  Waits ticket m = (t : ℕ) × (ticket ≡ t % 2 ^ 64) × (m.0.stage ≡ Waiting t)
