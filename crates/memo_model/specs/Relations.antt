-- What one memo keeps of an earlier one, and where its members come from.
use Rattle.std.specs.Prelude.{◌≡◌, ℕ, ◌+◌, ◌<◌, ◌≤◌, ◌⊎◌, List, length, slice_index_or, Some, None}
use Rattle.cal_schema.specs.declared.rel_type.RelType.{RelType}
use Rattle.cal_rel.specs.Holes.{renumbered, HasWithin}
use Rattle.cal_rel.specs.Info.{Info, set_at}
use Rattle.cal_rel.specs.Tree.{Tree, leaf, unary, binary, hole}
use Rattle.memo_model.specs.Sets.{Member, Sets, seed_at, became, Has, Stands}
use Rattle.memo_model.specs.Sound.{IsCoherent, IsSound, IsUnique}

-- Each member is there afterwards, and each set's type is at most as wide, with sets renumbered as `numbers` tells. A set that is gone
-- stays gone.
pub record Keeps (old new : Sets) : Type 0 where
  pub members : (s : ℕ) (node : Tree) → Has old.members s node → Has new.members (became new.numbers s) (renumbered (became new.numbers) node)
  pub types : (k : ℕ) (t : RelType) → set_at old.types k ≡ Some t → HasWithin (set_at new.types (became new.numbers k)) t
  pub numbers : (k : ℕ) → became new.numbers (became old.numbers k) ≡ became new.numbers k
  pub longer : length old.numbers ≤ length new.numbers
  pub gone : (k : ℕ) → k < length old.numbers → set_at old.types k ≡ None → set_at new.types k ≡ None

-- the member was there before, renumbered as `numbers` tells
pub record IsOld (old new : Sets) (s : ℕ) (node : Tree) : Type 0 where
  pub set : ℕ
  pub tree : Tree
  pub has : Has old.members set tree
  pub set_is : s ≡ became new.numbers set
  pub tree_is : node ≡ renumbered (became new.numbers) tree

-- no members but those from before
pub record AddsNone (old new : Sets) : Type 0 where
  pub members : (s : ℕ) (node : Tree) → Has new.members s node → IsOld old new s node

-- `part` is `whole` or stands below it
abbrev pub IsPart : Tree → Tree → Type 0
IsPart part (leaf l) = part ≡ leaf l
IsPart part (unary u t) = (part ≡ unary u t) ⊎ IsPart part t
IsPart part (binary b s t) = (part ≡ binary b s t) ⊎ (IsPart part s ⊎ IsPart part t)
IsPart part (hole k) = part ≡ hole k

-- the tree stands in the set by this member
abbrev pub StandsBy : List Member → ℕ → Tree → Tree → Type 0
StandsBy members s node (leaf l) = (node ≡ leaf l) × Has members s node
StandsBy members s node (unary u t) = (k : ℕ) × (node ≡ unary u (hole k)) × Has members s node × Stands members k t
StandsBy members s node (binary b x y) = (k : ℕ) × (l : ℕ) × (node ≡ binary b (hole k) (hole l)) × Has members s node × Stands members k x × Stands members l y
StandsBy members s node (hole k) = ⊥

-- some part of the tree stands in the set by this member
pub record ComesFrom (members : List Member) (whole : Tree) (s : ℕ) (node : Tree) : Type 0 where
  pub part : Tree
  pub is : IsPart part whole
  pub stands : StandsBy members s node part

-- What merges alone do: the memo stays sound but for what occurs twice, and keeps all, with no member but those from before.
pub record Settles (info : Info) (old new : Sets) : Type 0 where
  pub coherent : IsCoherent info new
  pub keeps : Keeps old new
  pub adds_none : AddsNone old new
  pub added : new.added ≡ old.added

-- What the entering of a tree does to the memo: nothing that is there changes but types, which are at most as wide.
pub record Extends (info : Info) (old new : Sets) : Type 0 where
  pub coherent : IsCoherent info new
  pub members : (s : ℕ) (node : Tree) → Has old.members s node → Has new.members s node
  pub types : (k : ℕ) (t : RelType) → set_at old.types k ≡ Some t → HasWithin (set_at new.types k) t
  pub seeds : (k : ℕ) → k < length old.seeds → seed_at new.seeds k ≡ seed_at old.seeds k
  pub numbers : (k : ℕ) → became new.numbers k ≡ became old.numbers k
  pub longer : length old.types ≤ length new.types
  pub gone : (k : ℕ) → k < length old.types → set_at old.types k ≡ None → set_at new.types k ≡ None
  pub added : new.added + length old.members ≡ old.added + length new.members

-- What a call leaves that was handed the tree `x` of type `t`; `mid` is the memo with `x` entered, before sets become one. The memo is
-- sound and keeps all, `x` stands in what the set `s` has become, whose type is at most as wide as `t`, each member was there or
-- has the node of a part of `x`, and the count rose by the members that were added.
pub record Registers (info : Info) (old mid new : Sets) (x : Tree) (t : RelType) (s : ℕ) : Type 0 where
  pub sound : IsSound info new
  pub keeps : Keeps old new
  pub stands : Stands new.members (became new.numbers s) (renumbered (became new.numbers) x)
  pub type : HasWithin (set_at new.types (became new.numbers s)) t
  pub members : (k : ℕ) (node : Tree) → Has new.members k node → IsOld old new k node ⊎ ComesFrom new.members (renumbered (became new.numbers) x) k node
  pub added : new.added ≡ mid.added
  pub counted : mid.added + length old.members ≡ old.added + length mid.members

-- ---- the search for expressions that occur twice

-- two places with one expression
pub record IsTwice (members : List Member) (i j : ℕ) : Type 0 where
  pub first : Member
  pub second : Member
  pub before : i < j
  pub within : j < length members
  pub first_is : slice_index_or members i first ≡ first
  pub second_is : slice_index_or members j second ≡ second
  pub same : first.tree ≡ second.tree

-- no earlier place has the expression of the place j
pub record IsFirst (members : List Member) (j : ℕ) : Type 0 where
  pub first : (i : ℕ) (d : Member) → i < j → (slice_index_or members i d).tree ≡ (slice_index_or members j d).tree → ⊥
