-- Other sets in the holes of a tree, trees in their places, and what holds of each.
use Rattle.std.specs.Prelude.{◌≡◌, ℕ, Option, Some, ⊤}
use Rattle.cal_schema.specs.declared.rel_type.RelType.{RelType}
use Rattle.cal_schema.specs.RelType.{IsWithin}
use Rattle.cal_rel.specs.Info.{Info, set_at}
use Rattle.cal_rel.specs.Tree.{Tree, leaf, unary, binary, hole}

-- other numbers for the sets
abbrev pub renumbered : (ℕ → ℕ) → Tree → Tree
renumbered m (leaf l) = leaf l
renumbered m (unary u t) = unary u (renumbered m t)
renumbered m (binary b s t) = binary b (renumbered m s) (renumbered m t)
renumbered m (hole set) = hole (m set)

-- a tree in the place of each hole
abbrev pub filled : (ℕ → Tree) → Tree → Tree
filled g (leaf l) = leaf l
filled g (unary u t) = unary u (filled g t)
filled g (binary b s t) = binary b (filled g s) (filled g t)
filled g (hole set) = g set

-- what holds of the set of each hole
abbrev pub EachHole : (ℕ → Type 0) → Tree → Type 0
EachHole P (leaf l) = ⊤
EachHole P (unary u t) = EachHole P t
EachHole P (binary b s t) = EachHole P s × EachHole P t
EachHole P (hole set) = P set

-- it is there, and at most as wide
pub record HasWithin (o : Option RelType) (wide : RelType) : Type 0 where
  pub found : RelType
  pub is : o ≡ Some found
  pub within : IsWithin found wide

-- the one differs from the other in the sets alone
pub record DiffersInSets (from to : Info) : Type 0 where
  pub schema : to.schema ≡ from.schema
  pub stars : to.stars ≡ from.stars
  pub tiles : to.tiles ≡ from.tiles

-- each set is there under its other number, with the same type
pub record Renumbers (m : ℕ → ℕ) (from to : Info) : Type 0 where
  pub else : DiffersInSets from to
  pub sets : (k : ℕ) → set_at to.sets (m k) ≡ set_at from.sets k

-- or with one at most as wide
pub record Narrows (m : ℕ → ℕ) (from to : Info) : Type 0 where
  pub else : DiffersInSets from to
  pub sets : (k : ℕ) (t : RelType) → set_at from.sets k ≡ Some t → HasWithin (set_at to.sets (m k)) t
