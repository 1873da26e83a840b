-- The number that a set has become, by a look into the list.
use Rattle.std.proofs.Common.{◌≡◌, ℕ, List}
use Rattle.std.specs.Prelude.{slice_get}
use Rattle.std.specs.Option.{unwrap_or}
use Rattle.std.proofs.lemmas.Option.{unwrap_or-slice_get}
use Rattle.memo_model.specs.Sets.{became}

pub number-is : (numbers : List ℕ) (k : ℕ) → unwrap_or (slice_get numbers k) k ≡ became numbers k
unfolding became
number-is numbers k = unwrap_or-slice_get numbers k k

pub ruleset number_steps = (number-is)
