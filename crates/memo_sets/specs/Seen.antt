-- The memo as plain data.
use Rattle.std.specs.Prelude.{◌≡◌, ℕ, ◌≤◌, ◌++◌, List, [], map, length, Option, slice_get}
use Rattle.std.specs.Option.{option_and_then}
use Rattle.cal_schema.specs.declared.rel_type.RelType.{RelType}
use Rattle.cal_rel.specs.Info.{set_at}
use Rattle.cal_rel.specs.Tree.{Tree, tree_of}
use Rattle.memo_model.specs.declared.TheConstants.{MEMBER_LIMIT}
use Rattle.memo_model.specs.Sets as plain
use Rattle.memo_sets.specs.declared.memo.Member.{Member}
use Rattle.memo_sets.specs.declared.memo.Memo.{Memo}
use Rattle.memo_sets.specs.declared.draft.Draft.{Draft}
use Rattle.memo_sets.specs.declared.draft.Finished.{Finished}
use Rattle.memo_sets.specs.declared.draft.Finished.TheVariants.{Types, Whole}

abbrev pub member_of : Member → plain.Member
member_of m = record { set = m.set; tree = tree_of m.rel }

abbrev pub sets_of : Memo → plain.Sets
sets_of m = record { members = map member_of m.members; seeds = map tree_of m.seeds; types = m.types; numbers = m.numbers; added = m.added }

-- the seed of a set that is there
abbrev pub seed_there : plain.Sets → ℕ → Option Tree
seed_there m k = option_and_then (λ (t : RelType). slice_get m.seeds k) (set_at m.types k)

-- the memo with what the draft adds
abbrev pub drafted : Memo → Draft → plain.Sets
drafted base d = record {
  members = map member_of base.members ++ map member_of d.members;
  seeds = map tree_of base.seeds ++ map tree_of d.seeds;
  types = d.types;
  numbers = base.numbers ++ d.numbers;
  added = d.added;
}

-- no more sets than members were made, and no more members than the limit allows
pub record HasRoom (m : plain.Sets) : Type 0 where
  pub made : length m.types ≤ m.added
  pub full : m.added ≤ MEMBER_LIMIT

-- the draft adds nothing but types
pub record IsTypesAlone (base : Memo) (d : Draft) : Type 0 where
  pub members : d.members ≡ []
  pub seeds : d.seeds ≡ []
  pub numbers : d.numbers ≡ []
  pub added : d.added ≡ base.added

-- the memo with a finished draft
abbrev pub with_draft : plain.Sets → Finished → plain.Sets
with_draft m (Types types) = record m { types = types }
with_draft m (Whole memo) = sets_of memo
