-- The tree with which a search begins, and the memo that has it.
use Rattle.std.specs.Prelude.{◌≡◌, ◌⊎◌, ◌<◌, ℕ, List, [], ◌∷◌, None}
use Rattle.cal_rel.specs.Holes.{EachHole}
use Rattle.cal_rel.specs.Info.{Info}
use Rattle.cal_rel.specs.Tree.{Tree}
use Rattle.memo_model.specs.declared.TheConstants.{MEMBER_LIMIT}
use Rattle.memo_model.specs.Sets.{Sets, became, Stands}
use Rattle.memo_model.specs.Sound.{IsSound}
use Rattle.memo_model.specs.Steps.{entered}
use Rattle.rule_hep.specs.Meaning.{Meaning}
use Rattle.search_model.specs.Grown.{IsGrown}

abbrev pub no_sets : Sets
no_sets = record { members = []; seeds = []; types = []; numbers = []; added = 0 }

-- it has more different parts than a memo may have members
pub record IsTooLarge (info : Info) (tree : Tree) : Type 0 where
  pub past : MEMBER_LIMIT < (entered info None tree no_sets).sets.added

-- the tree after the steps of the rules, or the SELECT's own tree where that one is too large for a memo
abbrev pub IsStart : Info → Tree → Tree → Tree → Type 0
IsStart info own result start = (start ≡ result) ⊎ ((start ≡ own) × IsTooLarge info result)

-- a sound memo in which the tree, which has no hole, stands in the set that `s` has become, and whose members are nodes of its parts alone
pub record IsStarted (info : Info) (tree : Tree) (m : Sets) (s : ℕ) : Type 0 where
  pub no_hole : EachHole (λ k. ⊥) tree
  pub sound : IsSound info m
  pub stands : Stands m.members (became m.numbers s) tree
  pub grown : (rules : List Meaning) → IsGrown info rules (tree ∷ []) m []

-- so with the start tree of a SELECT
pub record IsStartedFrom (info : Info) (own result : Tree) (m : Sets) (s : ℕ) : Type 0 where
  pub start : Tree
  pub is_start : IsStart info own result start
  pub started : IsStarted info start m s
