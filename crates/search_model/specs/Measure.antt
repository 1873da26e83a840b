-- How far a search may still go: sets that may still be merged away, and firings that are left.
use Rattle.std.specs.Prelude.{◌≡◌, ℕ, zero, suc, ◌+◌, ◌*◌, ◌-◌, ◌<◌, Bool, true, cond, nat_lt, is_some, List, length, Option, None}
use Rattle.cal_schema.specs.declared.rel_type.RelType.{RelType}
use Rattle.cal_rel.specs.Info.{set_at}
use Rattle.memo_model.specs.declared.TheConstants.{MEMBER_LIMIT}
use Rattle.memo_model.specs.Sets.{Sets}
use Rattle.search_model.specs.Firings.{Firing}

-- the number wasn't made yet, or its set is there
abbrev pub open_at : List (Option RelType) → ℕ → Bool
open_at types k = cond (nat_lt k (length types)) (is_some (set_at types k)) true

abbrev pub count_open : ℕ → List (Option RelType) → ℕ
count_open zero types = 0
count_open (suc n) types = cond (open_at types n) 1 0 + count_open n types

-- a set that is gone stays gone
pub record StaysGone (old new : List (Option RelType)) : Type 0 where
  pub gone : (k : ℕ) → k < length old → set_at old k ≡ None → set_at new k ≡ None

-- sets that are open, and then the firings that are left
unfoldable pub search_left : ℕ → Sets → List Firing → ℕ
search_left budget m firings = count_open MEMBER_LIMIT m.types * (budget + 1) + (budget - length firings)
