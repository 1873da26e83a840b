-- What the entering of a tree leaves, and why a tree isn't entered.
use Rattle.std.specs.Prelude.{◌≡◌, ℕ, ◌<◌, Result, MatchResult}
use Rattle.memo_model.specs.declared.TheConstants.{MEMBER_LIMIT}
use Rattle.memo_model.specs.Sets.{Sets}
use Rattle.memo_model.specs.Steps.{Placed}
use Rattle.memo_sets.specs.declared.memo.MemoFault.{MemoFault}
use Rattle.memo_sets.specs.declared.memo.MemoFault.TheVariants.{MemoFull, NoMemory}
use Rattle.memo_sets.specs.Seen.{HasRoom}

-- `after` is the memo that the tree would make
abbrev pub IsFaultOf : Sets → MemoFault → Type 0
IsFaultOf after (MemoFull limit) = (limit ≡ MEMBER_LIMIT) × (MEMBER_LIMIT < after.added)
IsFaultOf after NoMemory = Unit {0}

-- the memo and the set are the ones placed, and there is room for them
pub record Leaves (placed : Placed) (sets : Sets) (set : ℕ) : Type 0 where
  pub sets_is : sets ≡ placed.sets
  pub set_is : set ≡ placed.set
  pub room : HasRoom sets

-- what a step answers that would place this: its memo and set, or the fault
abbrev pub Enters : Placed → Sets → Result ℕ MemoFault → Type 0
Enters placed sets result = MatchResult result (λ set. Leaves placed sets set) (λ fault. IsFaultOf placed.sets fault)
