-- What a search answers.
use Rattle.std.specs.Prelude.{◌≡◌, ℕ, ◌<◌, ◌≤◌, Bool, true, false, List, length, Contains}
use Rattle.cal_rel.specs.Info.{Info}
use Rattle.rule_hep.specs.Meaning.{Meaning}
use Rattle.memo_model.specs.Sets.{Sets}
use Rattle.memo_model.specs.Sound.{IsSound}
use Rattle.memo_model.specs.Relations.{Keeps}
use Rattle.search_model.specs.Firings.{Firing, IsFired, AreApart, IsComplete, IsClosed}
use Rattle.search_model.specs.Search.{IsStopped}

-- each image stands in its set, each binding that has an image is among the firings, and they are fewer than the budget
pub record IsAll (info : Info) (rules : List Meaning) (budget : ℕ) (m : Sets) (firings : List Firing) : Type 0 where
  pub closed : IsClosed info rules m
  pub whole : IsComplete info rules m firings
  pub fewer : length firings < budget

-- The memo is sound. Each firing fired, no two agree in rule, n and binding, and they are at most as many as the budget allows. `complete` tells
-- that nothing is missing; else the budget is used up, or an image would pass the member limit.
pub record IsSearched (info : Info) (rules : List Meaning) (budget : ℕ) (m : Sets) (firings : List Firing) (complete : Bool) : Type 0 where
  pub sound : IsSound info m
  pub fired : (f : Firing) → Contains firings f → IsFired info rules m f
  pub apart : AreApart firings
  pub few : length firings ≤ budget
  pub all : complete ≡ true → IsAll info rules budget m firings
  pub stopped : complete ≡ false → IsStopped info rules budget m firings

-- a memo that was searched, and keeps the one handed in
pub record IsExplored (info : Info) (rules : List Meaning) (budget : ℕ) (old new : Sets) (firings : List Firing) (complete : Bool) : Type 0 where
  pub searched : IsSearched info rules budget new firings complete
  pub keeps : Keeps old new
