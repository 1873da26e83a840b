-- What a seat's view says.
use Rattle.std.specs.Prelude.{◌≡◌, ℕ, ◌<◌, Bool, true, false, IsTrue, Option, None, List, [], length, Contains}
use Rattle.turn_lock.specs.declared.views.View.{View}
use Rattle.turn_lock.specs.declared.views.Stage.{Stage}
use Rattle.turn_lock.specs.declared.views.Stage.TheVariants.{Idle, Waiting, InTurn}

module _ {E : Type 0} where
  -- the seat has this ticket
  abbrev pub HasTicket : Stage E → ℕ → Type 0
  HasTicket (Waiting t) n = t ≡ n
  HasTicket (InTurn t xs o) n = t ≡ n
  HasTicket _ n = ⊥

  -- how many tickets it has, and which
  abbrev pub tickets : Stage E → ℕ
  tickets (Waiting t) = 1
  tickets (InTurn t xs o) = 1
  tickets _ = 0

  abbrev pub ticket_of : Stage E → ℕ
  ticket_of (Waiting t) = t
  ticket_of (InTurn t xs o) = t
  ticket_of _ = 0

  abbrev pub in_turn : Stage E → Bool
  in_turn (InTurn t xs o) = true
  in_turn _ = false

  -- the history that a seat in turn has noted, and the event that it has committed
  abbrev pub noted : Stage E → List E
  noted (InTurn t xs o) = xs
  noted _ = []

  abbrev pub committed_of : Stage E → Option E
  committed_of (InTurn t xs o) = o
  committed_of _ = None

  -- 0 where the seat is idle
  abbrev pub busy : Stage E → ℕ
  busy Idle = 0
  busy _ = 1

module _ {E B : Type 0} where
  abbrev pub TicketOf : View E B → ℕ → Type 0
  TicketOf v n = HasTicket v.stage n

  abbrev pub ActorOf : View E B → ℕ → Type 0
  ActorOf v a = Contains v.actors a

  abbrev pub PlaceOf : View E B → ℕ → Type 0
  PlaceOf v p = Contains v.places p

  abbrev pub ticket_count : View E B → ℕ
  ticket_count v = tickets v.stage

  abbrev pub share_count : View E B → ℕ
  share_count v = length v.actors

  abbrev pub place_count : View E B → ℕ
  place_count v = length v.places

  -- a spent view has no actor
  abbrev pub IsLive : View E B → Type 0
  IsLive v = 0 < share_count v

  abbrev pub IsInTurn : View E B → Type 0
  IsInTurn v = IsTrue (in_turn v.stage)
