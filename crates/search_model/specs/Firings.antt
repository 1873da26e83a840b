-- Firings, and when a memo is closed under rules.
use Rattle.std.specs.Prelude.{◌≡◌, ℕ, ◌<◌, List, length, slice_get, slice_index_or, Contains, Some}
use Rattle.cal_rel.specs.Holes as trees
use Rattle.cal_rel.specs.Info.{Info}
use Rattle.cal_rel.specs.Tree.{Tree}
use Rattle.rule_hep.specs.Meaning.{Meaning}
use Rattle.memo_model.specs.Sets.{Sets, Stands}
use Rattle.memo_model.specs.Sound.{over}
use Rattle.search_model.specs.Bindings.{Binds}

-- a rule by its place in the list, n, a binding, and the set of its member
pub record Firing : Type 0 where
  pub rule : ℕ
  pub nth : ℕ
  pub binding : Tree
  pub set : ℕ

-- with other numbers for the sets
abbrev pub renumbered : (ℕ → ℕ) → Firing → Firing
renumbered m f = record { rule = f.rule; nth = f.nth; binding = trees.renumbered m f.binding; set = m f.set }

-- its binding is one of a member of its set and has an image, which stands in that set
pub record IsFired (info : Info) (rules : List Meaning) (m : Sets) (f : Firing) : Type 0 where
  pub law : Meaning
  pub rule : slice_get rules f.rule ≡ Some law
  pub binds : Binds m.members law.reach f.set f.binding
  pub out : Tree
  pub image : law.image (over info m.types) f.binding f.nth ≡ Some out
  pub stands : Stands m.members f.set out

-- no two places agree in rule, n and binding
pub record AreApart (firings : List Firing) : Type 0 where
  pub apart : (i j : ℕ) (d : Firing) → i < length firings → j < length firings
      → (slice_index_or firings i d).rule ≡ (slice_index_or firings j d).rule
      → (slice_index_or firings i d).nth ≡ (slice_index_or firings j d).nth
      → (slice_index_or firings i d).binding ≡ (slice_index_or firings j d).binding → i ≡ j

-- each binding that has an image is among the firings
pub record IsComplete (info : Info) (rules : List Meaning) (m : Sets) (firings : List Firing) : Type 0 where
  pub has : (i : ℕ) (law : Meaning) → slice_get rules i ≡ Some law → (s : ℕ) (b : Tree) → Binds m.members law.reach s b → (n : ℕ) (out : Tree)
      → law.image (over info m.types) b n ≡ Some out → Contains firings (record { rule = i; nth = n; binding = b; set = s })

-- each image stands in its set
pub record IsClosed (info : Info) (rules : List Meaning) (m : Sets) : Type 0 where
  pub stands : (i : ℕ) (law : Meaning) → slice_get rules i ≡ Some law → (s : ℕ) (b : Tree) → Binds m.members law.reach s b → (n : ℕ) (out : Tree)
      → law.image (over info m.types) b n ≡ Some out → Stands m.members s out
