-- What the calls leave, and what `register` answers of a tree and a set, by where the tree stood before the call.
use Rattle.std.specs.Prelude.{◌≡◌, ◌≢◌, ℕ, List, min, max, Some, None}
use Rattle.cal_schema.specs.declared.rel_type.RelType.{RelType}
use Rattle.cal_rel.specs.Info.{Info}
use Rattle.cal_rel.specs.Tree.{Tree}
use Rattle.cal_rel.specs.Typing.{type_of}
use Rattle.memo_model.specs.Sets.{Member, Sets, Stands}
use Rattle.memo_model.specs.Sound.{over}
use Rattle.memo_model.specs.Relations.{Registers}
use Rattle.memo_model.specs.Steps.{Placed, entered}
use Rattle.memo_sets.specs.declared.register.Registered.{Registered}
use Rattle.memo_sets.specs.declared.register.Registered.TheVariants.{Added, Known, Merged}

-- a well-formed tree was entered, and stands in the set `s`
abbrev pub IsSeeded : Info → Sets → Sets → Tree → ℕ → Type 0
IsSeeded info old new x s = (t : RelType) → type_of (over info old.types) x ≡ Some t → Registers info old (entered info None x old).sets new x t s

-- and it stands in what the set `s` has become
abbrev pub IsRegistered : Info → Sets → Sets → Tree → ℕ → Type 0
IsRegistered info old new x s = (t : RelType) → type_of (over info old.types) x ≡ Some t → Registers info old (entered info (Some s) x old).sets new x t s

-- the memo and the set are the ones placed
pub record IsPlacedBy (placed : Placed) (new : Sets) (set : ℕ) : Type 0 where
  pub sets : new ≡ placed.sets
  pub set_is : set ≡ placed.set

-- the memo is the one placed, where no sets became one
abbrev pub IsPlacedUnlessMerged : Placed → Sets → Registered → Type 0
IsPlacedUnlessMerged placed new (Added k) = new ≡ placed.sets
IsPlacedUnlessMerged placed new (Known k) = new ≡ placed.sets
IsPlacedUnlessMerged placed new (Merged kept gone) = Unit {0}

-- it stood nowhere; in the set; in another one, and the lower number of the two is kept
abbrev pub IsAnswer : List Member → Tree → ℕ → Registered → Type 0
IsAnswer members x s (Added k) = (k ≡ s) × ((j : ℕ) → Stands members j x → ⊥)
IsAnswer members x s (Known k) = (k ≡ s) × Stands members s x
IsAnswer members x s (Merged kept gone) = (j : ℕ) × Stands members j x × (j ≢ s) × (kept ≡ min j s) × (gone ≡ max j s)

-- where its set is the one asked for: nothing was added, or something was
abbrev pub IsAnswerIn : ℕ → ℕ → ℕ → Registered → Type 0
IsAnswerIn s before after (Added k) = (k ≡ s) × (before ≢ after)
IsAnswerIn s before after (Known k) = (k ≡ s) × (before ≡ after)
IsAnswerIn s before after (Merged kept gone) = ⊥
