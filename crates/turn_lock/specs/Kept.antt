-- How the private fields of a lock, a pass and a turn are read, and what they keep.
use Rattle.std.specs.Prelude.{◌≡◌, ℕ, zero, suc, ◌<◌, Option, Some, None, IsSome, List, [], ◌∷◌, length}
use Rattle.std.specs.List.Sorted.{IsStrictlyIncreasing}
use Rattle.std.proofs.lemmas.Bool.{false≢true}
use Rattle.atomic_table.specs.Seated.{TableId}
use Rattle.atomic_table.specs.Table.{Me}
use Rattle.turn_lock.specs.declared.views.View.{View}
use Rattle.turn_lock.specs.Pass.{Lock, Known}
use Rattle.turn_lock.specs.Turned.{Stays, Adds}
use Rattle.turn_lock.specs.Views.{busy, IsInTurn, noted, committed_of}

-- the value that is there
abbrev pub value_of : {A : Type 0} → (o : Option A) → IsSome o → A
value_of None there = absurd (false≢true there)
value_of (Some x) there = x

abbrev pub known : {E B : Type 0} → TableId → (v : View E B) → IsSome v.base → Known E B
known id v based = record { lock = id; base = value_of v.base based; prefix = v.prefix; commits = v.places; actors = v.actors }

-- the lock has three words and one slot, and keeps its number of seats
pub record IsLaidOut (id : TableId) (told seats : ℕ) : Type 0 where
  pub words : id.words ≡ 3
  pub slots : id.slots ≡ 1
  pub all : seats ≡ told

-- a pass waits for nothing and has nothing in hand, and has as many shares as actors
pub record AtRest {M E B : Type 0} (me : Me M (View E B)) (shares : ℕ) : Type 0 where
  pub empty : length me.1 ≡ 0
  pub idle : busy me.0.stage ≡ 0
  pub rise : IsStrictlyIncreasing me.0.actors
  pub counted : shares ≡ length me.0.actors
  pub some : 0 < shares

-- what the pass of a view in turn knows
abbrev pub known_in_turn : {E B : Type 0} → TableId → B → View E B → Known E B
known_in_turn id b v = record { lock = id; base = b; prefix = noted v.stage; commits = v.places; actors = v.actors }

-- the machine in the one slot, where it is in hand
abbrev pub machine_of : {M : Type 0} → List (ℕ × M) → Option M
machine_of [] = None
machine_of ((zero, x) ∷ others) = Some x
machine_of ((suc k, x) ∷ others) = None

-- what a turn has made of its pass: this event was committed, or nothing
abbrev pub Turned : {E B : Type 0} → (E → ℕ) → Known E B → Option E → Known E B → Type 0
Turned actor p None q = Stays actor p q
Turned actor p (Some e) q = Adds actor p e (length q.prefix) q

-- a seat of this lock that is in turn, with one slot in hand and these others
pub record HasTurn {M E B : Type 0} (actor : E → ℕ) (lock : Lock) (id : TableId) (entered : Known E B) (v : View E B) (others : List (ℕ × M)) (shares : ℕ) : Type 0 where
  pub same_lock : id ≡ lock.id
  pub turn : IsInTurn v
  pub one : others ≡ []
  pub base : v.base ≡ Some entered.base
  pub rise : IsStrictlyIncreasing v.actors
  pub counted : shares ≡ length v.actors
  pub some : 0 < shares
  pub turned : Turned actor entered (committed_of v.stage) (known_in_turn id entered.base v)
