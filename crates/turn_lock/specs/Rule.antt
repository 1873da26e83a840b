-- The rule of the lock. It holds between any two atomic steps, for any number of seats.
use Rattle.std.specs.Prelude.{◌≡◌, ℕ, ◌+◌, ◌%◌, ◌^◌, ◌<◌, ◌≤◌, Some, List, [], ◌∷◌, length}
use Rattle.std.specs.List.{sum_by, range_with_len}
use Rattle.std.specs.List.Sorted.{IsStrictlyIncreasing}
use mathlib.Core.Option.{Option, none, some}
use lib.ListN.{get_elem?}
use Rattle.atomic_table.specs.Table.{State}
use Rattle.turn_lock.specs.declared.views.View.{View}
use Rattle.turn_lock.specs.declared.views.Stage.{Stage}
use Rattle.turn_lock.specs.declared.views.Stage.TheVariants.{Idle, Joining}
use Rattle.turn_lock.specs.Actors.{merged}
use Rattle.turn_lock.specs.History.{longer, GoesOn}
use Rattle.turn_lock.specs.Views.{ticket_of, noted, TicketOf, ActorOf, PlaceOf, ticket_count, share_count, place_count, IsLive, IsInTurn}

-- P holds of each view, or of some view
abbrev pub Each : {V : Type 0} → (V → Type 0) → List V → Type 0
Each {V} P views = (i : ℕ) (v : V) → get_elem? views i ≡ some v → P v

abbrev pub Someone : {V : Type 0} → (V → Type 0) → List V → Type 0
Someone {V} P views = (i : ℕ) × (v : V) × (get_elem? views i ≡ some v) × P v

-- no two views have one number
abbrev pub Apart : {V : Type 0} → (V → ℕ → Type 0) → List V → Type 0
Apart {V} Of views = (i j : ℕ) (v w : V) (n : ℕ) → get_elem? views i ≡ some v → get_elem? views j ≡ some w → Of v n → Of w n → i ≡ j

-- each number that is dealt is had by exactly one view, and no other number is
pub record IsDealt {V : Type 0} (Is : ℕ → Type 0) (Of : V → ℕ → Type 0) (views : List V) : Type 0 where
  pub all : (n : ℕ) → Is n → Someone (λ v. Of v n) views
  pub once : Apart Of views
  pub only : Each (λ v. (n : ℕ) → Of v n → Is n) views

-- the machine is at home, with this base and history, while nobody is in turn; or it is out, while somebody is
pub data IsPlaced {M E B : Type 0} (history : M → List E) (base : M → B) (log : List E) (b : B) (homes : List (Option M)) (views : List (View E B)) : Type 0 where
  at_home : (x : M) → homes ≡ some x ∷ [] → base x ≡ b → history x ≡ log → ¬ Someone IsInTurn views → IsPlaced history base log b homes views
  out : homes ≡ none ∷ [] → Someone IsInTurn views → IsPlaced history base log b homes views

-- what a view keeps of the two that it was just made of, until its next step
abbrev pub IsJoined : {E : Type 0} → (E → ℕ) → List E → List E → List ℕ → Stage E → Type 0
IsJoined actor log prefix actors (Joining xs mine ys theirs) = GoesOn actor mine xs log × GoesOn actor theirs ys log × (prefix ≡ longer xs ys) × (actors ≡ merged mine theirs)
IsJoined actor log prefix actors _ = Unit {0}

pub record Ruled {M E B : Type 0} (history : M → List E) (actor : E → ℕ) (base : M → B) (seats : ℕ) (b : B) (s : State M (View E B)) : Type 0 where
  -- the longest prefix, how many turns have ended, and how many tickets were drawn
  pub log : List E
  pub served : ℕ
  pub drawn : ℕ
  -- The history word is the length of the longest prefix. The ticket word and the serving word count modulo 2 ^ 64, and there are fewer than 2 ^ 32 seats.
  pub words : s.words ≡ length log ∷ drawn % 2 ^ 64 ∷ served % 2 ^ 64 ∷ []
  pub few : seats < 2 ^ 32
  -- The tickets held are different, lie from `served` up to `drawn` less 1, and are as many as the difference.
  pub tickets_apart : Apart TicketOf s.views
  pub tickets_between : Each (λ v. (n : ℕ) → TicketOf v n → (served ≤ n) × (n < drawn)) s.views
  pub tickets_counted : drawn ≡ served + sum_by ticket_count s.views
  -- The machine is out exactly while a view is in turn, whose ticket is then `served`. At home it has the one base and the longest prefix.
  pub in_turn : Each (λ v. IsInTurn v → ticket_of v.stage ≡ served) s.views
  pub placed : IsPlaced history base log b s.homes s.views
  -- Each prefix is a prefix of the longest, which some view has, and all have one base. A view in turn has noted the longest prefix, with its event from its commit on.
  -- Past the prefix of a view no event of the longest has one of that view's actors.
  pub longest : Someone (λ v. IsLive v × (v.prefix ≡ log)) s.views
  pub prefixes : Each (λ v. GoesOn actor v.actors v.prefix log) s.views
  pub bases : Each (λ v. IsLive v → v.base ≡ Some b) s.views
  pub notes : Each (λ v. IsInTurn v → noted v.stage ≡ log) s.views
  -- Each place up to the history word is among the commits of exactly one view, so they add up to the history word.
  pub places : IsDealt (λ p. (0 < p) × (p ≤ length log)) PlaceOf s.views
  pub places_counted : sum_by place_count s.views ≡ length log
  -- Each number below the number of seats is among the actors of exactly one view, and each view's actors rise.
  pub actors : IsDealt (λ a. a < seats) ActorOf s.views
  pub actors_counted : sum_by share_count s.views ≡ seats
  pub actors_rise : Each (λ v. IsStrictlyIncreasing v.actors) s.views
  -- A spent view has no ticket and no place.
  pub waiters_live : Each (λ v. 0 < ticket_count v → IsLive v) s.views
  pub owners_live : Each (λ v. 0 < place_count v → IsLive v) s.views
  -- A view that was just made of two keeps what is said of prefixes for both.
  pub joined : Each (λ v. IsJoined actor log v.prefix v.actors v.stage) s.views

-- the first view: it has the history that the machine came with, all its places, and all actors
abbrev pub first_view : {E B : Type 0} → ℕ → List E → B → View E B
first_view seats log b = record { stage = Idle; base = Some b; prefix = log; places = range_with_len 1 (length log); actors = range_with_len 0 seats }
