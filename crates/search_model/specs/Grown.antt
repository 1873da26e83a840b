-- Where the members of a memo come from: from trees with which it began, and from images of firings.
use Rattle.std.specs.Prelude.{◌≡◌, ◌⊎◌, ℕ, List, ◌∷◌, ◌++◌, slice_get, Contains, Some}
use Rattle.cal_rel.specs.Holes.{EachHole}
use Rattle.cal_rel.specs.Info.{Info}
use Rattle.cal_rel.specs.Tree.{Tree}
use Rattle.rule_hep.specs.Meaning.{Meaning}
use Rattle.memo_model.specs.Sets.{Sets, Has}
use Rattle.memo_model.specs.Sound.{over}
use Rattle.memo_model.specs.Relations.{ComesFrom}
use Rattle.search_model.specs.Bindings.{BindsBy}
use Rattle.search_model.specs.Firings.{Firing}

-- the member is the node of a part of one of the trees
pub record IsOfTree (trees : List Tree) (m : Sets) (s : ℕ) (node : Tree) : Type 0 where
  pub tree : Tree
  pub among : Contains trees tree
  pub comes : ComesFrom m.members tree s node

-- or of a part of the image of one of the firings
pub record IsOfFiring (info : Info) (rules : List Meaning) (m : Sets) (firings : List Firing) (s : ℕ) (node : Tree) : Type 0 where
  pub firing : Firing
  pub among : Contains firings firing
  pub law : Meaning
  pub rule : slice_get rules firing.rule ≡ Some law
  pub out : Tree
  pub image : law.image (over info m.types) firing.binding firing.nth ≡ Some out
  pub comes : ComesFrom m.members out s node

abbrev pub HasSource : Info → List Meaning → List Tree → Sets → List Firing → ℕ → Tree → Type 0
HasSource info rules trees m firings s node = IsOfTree trees m s node ⊎ IsOfFiring info rules m firings s node

-- each member comes from one of the trees or from the image of a firing, and each member that the binding of a firing uses from one of
-- the trees or from the image of an earlier firing
pub record IsGrown (info : Info) (rules : List Meaning) (trees : List Tree) (m : Sets) (firings : List Firing) : Type 0 where
  pub members : (s : ℕ) (node : Tree) → Has m.members s node → HasSource info rules trees m firings s node
  pub earlier : (before after : List Firing) (f : Firing) (law : Meaning) → firings ≡ before ++ (f ∷ after) → slice_get rules f.rule ≡ Some law
      → BindsBy (HasSource info rules trees m before) law.reach f.set f.binding

-- none of the trees has a hole
pub record HaveNoHoles (trees : List Tree) : Type 0 where
  pub none : (tree : Tree) → Contains trees tree → EachHole (λ k. ⊥) tree

-- what has grown from trees without holes has done so afterwards too
pub record StaysGrown (info : Info) (rules : List Meaning) (old new : Sets) (before after : List Firing) : Type 0 where
  pub grown : (trees : List Tree) → HaveNoHoles trees → IsGrown info rules trees old before → IsGrown info rules trees new after
