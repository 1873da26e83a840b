-- What one turn makes of a pass: p before it, q after it.
use Rattle.std.specs.Prelude.{◌≡◌, ℕ, List, [], ◌∷◌, ◌++◌, length}
use Rattle.turn_lock.specs.History.{GoesOn}
use Rattle.turn_lock.specs.Pass.{Known}

-- nothing was committed: what is new to the pass is by none of its actors
pub record Stays {E B : Type 0} (actor : E → ℕ) (p q : Known E B) : Type 0 where
  pub same : q ≡ record p { prefix = q.prefix }
  pub more : GoesOn actor p.actors p.prefix q.prefix

-- the event e was committed at this place, the last of what the pass has seen: what else is new to it is by none of its actors
pub record Adds {E B : Type 0} (actor : E → ℕ) (p : Known E B) (e : E) (place : ℕ) (q : Known E B) : Type 0 where
  pub same : q ≡ record p { prefix = q.prefix; commits = p.commits ++ place ∷ [] }
  pub last : place ≡ length q.prefix
  pub before : List E
  pub more : GoesOn actor p.actors p.prefix before
  pub whole : q.prefix ≡ before ++ e ∷ []
