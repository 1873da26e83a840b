-- A memo as plain data: members of sets, and by the number of a set its seed, its type and the set that it has become.
use Rattle.std.specs.Prelude.{◌≡◌, ℕ, List, Contains, slice_index_or, Option, Some}
use Rattle.cal_schema.specs.declared.rel_type.RelType.{RelType}
use Rattle.cal_rel.specs.Info.{set_at}
use Rattle.cal_rel.specs.Tree.{Tree, leaf, unary, binary, hole}

-- a node over the sets of its inputs, which are holes
pub record Member : Type 0 where
  pub set : ℕ
  pub tree : Tree

-- by number, a set that is gone has no type and keeps its seed; `numbers` tells which set each number has become
pub record Sets : Type 0 where
  pub members : List Member
  pub seeds : List Tree
  pub types : List (Option RelType)
  pub numbers : List ℕ
  pub added : ℕ

-- the seed of a set, also of one that is gone
unfoldable pub seed_at : List Tree → ℕ → Tree
seed_at seeds k = slice_index_or seeds k (hole k)

-- the set that a number has become; a number that was never made stays
unfoldable pub became : List ℕ → ℕ → ℕ
became numbers k = slice_index_or numbers k k

-- the set is there
pub record IsThere (types : List (Option RelType)) (k : ℕ) : Type 0 where
  pub found : RelType
  pub is : set_at types k ≡ Some found

-- the node is a member of the set
pub record Has (members : List Member) (s : ℕ) (node : Tree) : Type 0 where
  pub at : Contains members (record { set = s; tree = node })

-- The tree is the set's hole, or a member of the set has the tree's node and each input stands in the set of that member's hole.
abbrev pub Stands : List Member → ℕ → Tree → Type 0
Stands members s (leaf l) = Has members s (leaf l)
Stands members s (unary u t) = (k : ℕ) × Has members s (unary u (hole k)) × Stands members k t
Stands members s (binary b x y) = (k : ℕ) × (l : ℕ) × Has members s (binary b (hole k) (hole l)) × Stands members k x × Stands members l y
Stands members s (hole k) = k ≡ s
