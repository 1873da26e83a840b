-- What contracts see of a turn: a record.
use Rattle.std.specs.Prelude.{◌≡◌, ℕ, Option, IsSomeAnd, List, [], ◌∷◌, ◌++◌, Contains}
use Rattle.turn_lock.specs.Pass.{Known}

-- what its pass knew at entry and knows by now, the event that was committed, and the machine in hand
pub record Holding (M E B : Type 0) : Type 0 where
  pub entered : Known E B
  pub pass : Known E B
  pub committed : Option E
  pub machine : Option M

module _ {M E B : Type 0} (history : M → List E) (base : M → B) where
  -- the machine in hand has the base, and exactly the history that the turn knows
  abbrev pub IsSettled : Holding M E B → Type 0
  IsSettled h = IsSomeAnd h.machine (λ x. (base x ≡ h.pass.base) × (history x ≡ h.pass.prefix))

  -- the machine in hand has the base, and one event more, of one of the turn's actors
  abbrev pub AddsOne : (E → ℕ) → Holding M E B → Type 0
  AddsOne actor h = IsSomeAnd h.machine (λ x. (base x ≡ h.pass.base) × ((e : E) × (history x ≡ h.pass.prefix ++ e ∷ []) × Contains h.pass.actors (actor e)))
