-- The rule, with all that it says of one view in one record.
use Rattle.std.proofs.Common.{◌≡◌, ℕ, ◌+◌, ◌%◌, ◌^◌, ◌<◌, ◌≤◌, Some, List, [], ◌∷◌, length, arith}
use Rattle.std.specs.List.{sum_by}
use Rattle.std.specs.List.Sorted.{IsStrictlyIncreasing}
use Rattle.atomic_table.specs.Table.{State}
use Rattle.turn_lock.specs.declared.views.View.{View}
use Rattle.turn_lock.specs.History.{GoesOn}
use Rattle.turn_lock.specs.Views.{ticket_of, noted, TicketOf, ActorOf, PlaceOf, ticket_count, share_count, place_count, IsLive, IsInTurn}
use Rattle.turn_lock.specs.Rule.{Each, Someone, Apart, IsPlaced, IsJoined, Ruled}
use Rattle.turn_lock.proofs.Rows.{sum_le}
use Rattle.turn_lock.proofs.Stages.{at_most_one}

pub record Knows {E B : Type 0} (actor : E → ℕ) (seats served drawn : ℕ) (log : List E) (b : B) (v : View E B) : Type 0 where
  pub ticket : (n : ℕ) → TicketOf v n → (served ≤ n) × (n < drawn)
  pub turn : IsInTurn v → ticket_of v.stage ≡ served
  pub note : IsInTurn v → noted v.stage ≡ log
  pub waits : 0 < ticket_count v → IsLive v
  pub owns : 0 < place_count v → IsLive v
  pub base : IsLive v → v.base ≡ Some b
  pub seen : GoesOn actor v.actors v.prefix log
  pub rise : IsStrictlyIncreasing v.actors
  pub below : (a : ℕ) → ActorOf v a → a < seats
  pub placed : (p : ℕ) → PlaceOf v p → (0 < p) × (p ≤ length log)
  pub joined : IsJoined actor log v.prefix v.actors v.stage

pub record Facts {M E B : Type 0} (history : M → List E) (actor : E → ℕ) (base : M → B) (seats : ℕ) (b : B) (s : State M (View E B)) : Type 0 where
  pub log : List E
  pub served : ℕ
  pub drawn : ℕ
  pub words : s.words ≡ length log ∷ drawn % 2 ^ 64 ∷ served % 2 ^ 64 ∷ []
  pub few : seats < 2 ^ 32
  pub tickets : drawn ≡ served + sum_by ticket_count s.views
  pub shares : sum_by share_count s.views ≡ seats
  pub counted : sum_by place_count s.views ≡ length log
  pub each : Each (Knows actor seats served drawn log b) s.views
  pub tickets_apart : Apart TicketOf s.views
  pub actors_apart : Apart ActorOf s.views
  pub places_apart : Apart PlaceOf s.views
  pub actors_all : (a : ℕ) → a < seats → Someone (λ v. ActorOf v a) s.views
  pub places_all : (p : ℕ) → (0 < p) × (p ≤ length log) → Someone (λ v. PlaceOf v p) s.views
  pub longest : Someone (λ v. IsLive v × (v.prefix ≡ log)) s.views
  pub place : IsPlaced history base log b s.homes s.views

module _ {M E B : Type 0} (history : M → List E) (actor : E → ℕ) (base : M → B) (seats : ℕ) (b : B) (s : State M (View E B)) where
  pub facts : Ruled history actor base seats b s → Facts history actor base seats b s
  facts r = record {
    log = r.log;
    served = r.served;
    drawn = r.drawn;
    words = r.words;
    few = r.few;
    tickets = r.tickets_counted;
    shares = r.actors_counted;
    counted = r.places_counted;
    each = λ i v e. record {
      ticket = r.tickets_between i v e;
      turn = r.in_turn i v e;
      note = r.notes i v e;
      waits = r.waiters_live i v e;
      owns = r.owners_live i v e;
      base = r.bases i v e;
      seen = r.prefixes i v e;
      rise = r.actors_rise i v e;
      below = r.actors.only i v e;
      placed = r.places.only i v e;
      joined = r.joined i v e;
    };
    tickets_apart = r.tickets_apart;
    actors_apart = r.actors.once;
    places_apart = r.places.once;
    actors_all = r.actors.all;
    places_all = r.places.all;
    longest = r.longest;
    place = r.placed;
  }

  pub ruled : Facts history actor base seats b s → Ruled history actor base seats b s
  ruled f = record {
    log = f.log;
    served = f.served;
    drawn = f.drawn;
    words = f.words;
    few = f.few;
    tickets_apart = f.tickets_apart;
    tickets_between = λ i v e. (f.each i v e).ticket;
    tickets_counted = f.tickets;
    in_turn = λ i v e. (f.each i v e).turn;
    placed = f.place;
    longest = f.longest;
    prefixes = λ i v e. (f.each i v e).seen;
    bases = λ i v e. (f.each i v e).base;
    notes = λ i v e. (f.each i v e).note;
    places = record { all = f.places_all; once = f.places_apart; only = λ i v e. (f.each i v e).placed };
    places_counted = f.counted;
    actors = record { all = f.actors_all; once = f.actors_apart; only = λ i v e. (f.each i v e).below };
    actors_counted = f.shares;
    actors_rise = λ i v e. (f.each i v e).rise;
    waiters_live = λ i v e. (f.each i v e).waits;
    owners_live = λ i v e. (f.each i v e).owns;
    joined = λ i v e. (f.each i v e).joined;
  }

  -- the lock has handed out no more tickets than there are seats
  pub few_out : (f : Facts history actor base seats b s) → f.drawn ≤ f.served + seats
  few_out f = omega (arith, f.tickets, f.shares, sum_le ticket_count share_count s.views (λ i v e. let w = (f.each i v e).waits in let one = at_most_one v.stage in grind arith))
