-- Which stage a seat is at.
use Rattle.std.proofs.Common.{◌≡◌, ◌≤◌, false, IsTrue, ap, sym, ◌∙◌, refl, arith}
use Rattle.std.proofs.lemmas.Bool.{false≢true}
use Rattle.turn_lock.specs.declared.views.Stage.{Stage}
use Rattle.turn_lock.specs.declared.views.Stage.TheVariants.{Idle, Waiting, InTurn, Joining}
use Rattle.turn_lock.specs.Views.{HasTicket, tickets, ticket_of, in_turn, noted, committed_of, busy}

module _ {E : Type 0} where
  pub is_idle : (st : Stage E) → busy st ≡ 0 → st ≡ Idle
  is_idle Idle e = refl
  is_idle (Waiting t) e = absurd (omega (arith, e))
  is_idle (InTurn t xs o) e = absurd (omega (arith, e))
  is_idle (Joining xs mine ys theirs) e = absurd (omega (arith, e))

  pub is_in_turn : (st : Stage E) → IsTrue (in_turn st) → st ≡ InTurn (ticket_of st) (noted st) (committed_of st)
  is_in_turn Idle e = absurd (false≢true e)
  is_in_turn (Waiting t) e = absurd (false≢true e)
  is_in_turn (InTurn t xs o) e = refl
  is_in_turn (Joining xs mine ys theirs) e = absurd (false≢true e)

  pub turn_ticket : (st : Stage E) → IsTrue (in_turn st) → HasTicket st (ticket_of st)
  turn_ticket Idle e = absurd (false≢true e)
  turn_ticket (Waiting t) e = absurd (false≢true e)
  turn_ticket (InTurn t xs o) e = refl
  turn_ticket (Joining xs mine ys theirs) e = absurd (false≢true e)

  pub turn_tickets : (st : Stage E) → IsTrue (in_turn st) → tickets st ≡ 1
  turn_tickets Idle e = absurd (false≢true e)
  turn_tickets (Waiting t) e = absurd (false≢true e)
  turn_tickets (InTurn t xs o) e = refl
  turn_tickets (Joining xs mine ys theirs) e = absurd (false≢true e)

  pub at_most_one : (st : Stage E) → tickets st ≤ 1
  at_most_one Idle = omega arith
  at_most_one (Waiting t) = omega arith
  at_most_one (InTurn t xs o) = omega arith
  at_most_one (Joining xs mine ys theirs) = omega arith

  pub not_turn : (st st' : Stage E) → st ≡ st' → in_turn st' ≡ false → ¬ IsTrue (in_turn st)
  not_turn st st' is other e = false≢true (sym other ∙ ap in_turn (sym is) ∙ e)
