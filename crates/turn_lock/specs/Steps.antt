-- The kinds of step, and what each does to the seat that makes it. `m` is the seat before, with its view and the slot in its hand, `r` the number found in the word, and `m'` the seat after.
use Rattle.std.specs.Prelude.{◌≡◌, ◌≢◌, ℕ, ◌+◌, ◌%◌, ◌^◌, ◌<◌, Some, None, List, [], ◌∷◌, ◌++◌, length}
use Rattle.std.specs.List.Sorted.{IsStrictlyIncreasing}
use Rattle.atomic_table.specs.Table.{Me, rest}
use Rattle.turn_lock.specs.declared.views.View.{View}
use Rattle.turn_lock.specs.declared.views.Stage.TheVariants.{Idle, Waiting, InTurn, Joining}
use Rattle.turn_lock.specs.Actors.{merged, lower, upper}
use Rattle.turn_lock.specs.History.{longer, GoesOn}
use Rattle.turn_lock.specs.Views.{ticket_of, noted, share_count}

abbrev pub SeatState : Type 0 → Type 0 → Type 0 → Type 0
SeatState M E B = Me M (View E B)

-- draw, a fetch_add on the ticket word: the view gets the ticket
abbrev pub Draws : {M E B : Type 0} → SeatState M E B → ℕ → SeatState M E B → Type 0
Draws m r m' = (t : ℕ) × (r ≡ t % 2 ^ 64) × (m' ≡ (record m.0 { stage = Waiting t }, m.1))

module _ {M E B : Type 0} (history : M → List E) (actor : E → ℕ) (base : M → B) where
  -- the view is in turn and notes the whole history, which goes on from what it had seen; the machine, which has it, comes out
  abbrev pub Enters : SeatState M E B → SeatState M E B → Type 0
  Enters m m' = (x : M) × (m' ≡ (record m.0 { stage = InTurn (ticket_of m.0.stage) (history x) None }, (0, x) ∷ m.1)) × (m.0.base ≡ Some (base x)) × GoesOn actor m.0.actors m.0.prefix (history x)

  -- look, a load of the serving word: the view is in turn where it finds its ticket
  abbrev pub Looks : SeatState M E B → ℕ → SeatState M E B → Type 0
  Looks m r m' = (r ≡ ticket_of m.0.stage % 2 ^ 64 → Enters m m') × (r ≢ ticket_of m.0.stage % 2 ^ 64 → m' ≡ m)

-- commit, a fetch_add on the history word: the view gets the longer prefix, which is the history of the machine in hand, and the place, and notes that history and its last event
abbrev pub Commits : {M E B : Type 0} → (M → List E) → SeatState M E B → ℕ → SeatState M E B → Type 0
Commits {M} {E} history m r m' = (x : M) (e : E) → m.1 ≡ (0, x) ∷ [] → history x ≡ noted m.0.stage ++ e ∷ []
    → (r + 1 ≡ length (history x)) × (m' ≡ (record m.0 { stage = InTurn (ticket_of m.0.stage) (history x) (Some e); prefix = history x; places = m.0.places ++ (r + 1) ∷ [] }, m.1))

-- hand on, a fetch_add on the serving word: the view gives its ticket and its note up, and has seen what it had noted; the machine goes home
abbrev pub HandsOn : {M E B : Type 0} → SeatState M E B → ℕ → SeatState M E B → Type 0
HandsOn m r m' = m' ≡ (record m.0 { stage = Idle; prefix = noted m.0.stage }, rest m.1)

-- meet, a load of the history word: the view gets the longest prefix
abbrev pub Meets : {M E B : Type 0} → (E → ℕ) → SeatState M E B → ℕ → SeatState M E B → Type 0
Meets {E = E} actor m r m' = (xs : List E) × (m' ≡ (record m.0 { stage = Idle; prefix = xs }, m.1)) × (length xs ≡ r) × GoesOn actor m.0.actors m.0.prefix xs

module _ {E B : Type 0} where
  -- a seat is split: its view gives the n highest actors up, and the new view gets these, the base and the prefix, and no places
  abbrev pub lower_view : ℕ → View E B → View E B
  lower_view n v = record { stage = Idle; base = v.base; prefix = v.prefix; places = v.places; actors = lower n v.actors }

  abbrev pub upper_view : ℕ → View E B → View E B
  upper_view n v = record { stage = Idle; base = v.base; prefix = v.prefix; places = []; actors = upper n v.actors }

  -- a seat is joined: the kept view gets the longer prefix, both lists of places and the actors of both, and the other is spent
  abbrev pub joint_view : View E B → View E B → View E B
  joint_view v w = record { stage = Joining v.prefix v.actors w.prefix w.actors; base = v.base; prefix = longer v.prefix w.prefix; places = v.places ++ w.places; actors = merged v.actors w.actors }

  abbrev pub spent_view : View E B
  spent_view = record { stage = Idle; base = None; prefix = []; places = []; actors = [] }

-- settle, a load of the history word after a join, which tells what the rule knew of the two: the view keeps the longer prefix
abbrev pub Settles : {M E B : Type 0} → (E → ℕ) → SeatState M E B → ℕ → SeatState M E B → Type 0
Settles {E = E} actor m r m' = (xs ys : List E) (mine theirs : List ℕ) → m.0.stage ≡ Joining xs mine ys theirs
    → (m' ≡ (record m.0 { stage = Idle }, m.1)) × GoesOn actor mine xs (longer xs ys) × GoesOn actor theirs ys (longer xs ys) × IsStrictlyIncreasing m.0.actors × (share_count m.0 < 2 ^ 32)
