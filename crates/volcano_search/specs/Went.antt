-- What a part of a search did, by what it answers.
use Rattle.std.specs.Prelude.{◌≡◌, ℕ, ◌<◌, Bool, true, false, nat_lt, List, [], ◌∷◌, length, slice_index_or}
use Rattle.cal_rel.specs.Info.{Info}
use Rattle.rule_hep.specs.Meaning.{Meaning}
use Rattle.memo_model.specs.Sets.{Sets}
use Rattle.memo_model.specs.Relations.{Keeps}
use Rattle.memo_sets.specs.declared.register.Registered.{Registered}
use Rattle.memo_sets.specs.declared.register.Registered.TheVariants.{Added, Known, Merged}
use Rattle.search_model.specs.Firings.{Firing}
use Rattle.search_model.specs.Grown.{StaysGrown}
use Rattle.search_model.specs.Measure.{search_left}
use Rattle.search_model.specs.Search.{gathered, IsDone, IsSearch, IsStopped, IsQuiet}
use Rattle.volcano_search.specs.declared.search.Went.{Went}
use Rattle.volcano_search.specs.declared.search.Went.TheVariants.{Quiet, Fired, Stopped}

-- the firings after an image was registered: a merge alone changes numbers
abbrev pub noted : Registered → (ℕ → ℕ) → List Firing → List Firing
noted (Added set) m firings = firings
noted (Known set) m firings = firings
noted (Merged kept gone) m firings = gathered m [] firings

-- nothing happened and the triples are done, or a rule fired, or there is a reason to stop
abbrev pub WentBy : Info → List Meaning → ℕ → Sets → Sets → List Firing → List Firing → List Firing → Went → Type 0
WentBy info rules budget old new before after triples Quiet = IsQuiet info rules old new before after triples
WentBy info rules budget old new before after triples Fired = search_left budget new after < search_left budget old before
WentBy info rules budget old new before after triples Stopped = IsStopped info rules budget new after

-- a pass over triples keeps what holds at each turn
pub record IsPass (info : Info) (rules : List Meaning) (budget : ℕ) (old new : Sets) (before after triples : List Firing) (went : Went) : Type 0 where
  pub search : IsSearch info rules budget new after
  pub keeps : Keeps old new
  pub grown : StaysGrown info rules old new before after
  pub went_by : WentBy info rules budget old new before after triples went

-- one triple
abbrev pub IsStep : Info → List Meaning → ℕ → Sets → Sets → List Firing → List Firing → Firing → Went → Type 0
IsStep info rules budget old new before after f went = IsPass info rules budget old new before after (f ∷ []) went

-- the first `i` of the triples were passed over; where none fired, nothing happened
pub record IsSoFar (info : Info) (rules : List Meaning) (budget : ℕ) (old new : Sets) (before after triples : List Firing) (i : ℕ) (fired : Bool) : Type 0 where
  pub search : IsSearch info rules budget new after
  pub keeps : Keeps old new
  pub grown : StaysGrown info rules old new before after
  pub fallen : fired ≡ true → search_left budget new after < search_left budget old before
  pub sets : fired ≡ false → new ≡ old
  pub firings : fired ≡ false → after ≡ before
  pub done : fired ≡ false → (k : ℕ) (f : Firing) → k < i → k < length triples → slice_index_or triples k f ≡ f → IsDone info rules old before f

abbrev pub stops : Went → Bool
stops Quiet = false
stops Fired = false
stops Stopped = true

-- whether a rule fired, so far or now
abbrev pub also : Bool → Went → Bool
also fired Quiet = fired
also fired Fired = true
also fired Stopped = fired

-- a round after which the search ends
abbrev pub ends : Went → Bool
ends Quiet = true
ends Fired = false
ends Stopped = true

-- a quiet round, with fewer firings than the budget
abbrev pub is_complete : Went → ℕ → ℕ → Bool
is_complete Quiet firings budget = nat_lt firings budget
is_complete Fired firings budget = false
is_complete Stopped firings budget = false
