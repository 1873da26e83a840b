-- Histories, each a list of events, the oldest first.
use Rattle.std.specs.Prelude.{◌≡◌, ℕ, List, ◌++◌, length, nat_lt, if◌then◌else◌, All, Contains}

abbrev pub longer : {E : Type 0} → List E → List E → List E
longer xs ys = if nat_lt (length xs) (length ys) then ys else xs

-- ys begins with xs, and no event past it has one of these actors
pub record GoesOn {E : Type 0} (actor : E → ℕ) (actors : List ℕ) (xs ys : List E) : Type 0 where
  pub rest : List E
  pub whole : xs ++ rest ≡ ys
  pub quiet : All (λ e. ¬ Contains actors (actor e)) rest
