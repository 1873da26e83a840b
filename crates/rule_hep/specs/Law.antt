-- What each rule keeps: the image of a tree may stand for the tree, and other sets change nothing.
use Rattle.std.specs.Prelude.{◌≡◌, ℕ, ◌≤◌, Bool, true, Option, Some, None}
use Rattle.cal_schema.specs.declared.rel_type.RelType.{RelType}
use Rattle.cal_schema.specs.RelType.{kinds_of}
use Rattle.cal_schema.specs.Valid.{IsValidSchema}
use Rattle.cal_rel.specs.Holes.{renumbered, EachHole, DiffersInSets, Narrows}
use Rattle.cal_rel.specs.Info.{Info}
use Rattle.cal_rel.specs.Meaning.{MeansTheSame}
use Rattle.cal_rel.specs.Tree.{Tree}
use Rattle.cal_rel.specs.Typing.{type_of}

-- the n-th image of a tree, where there is one
abbrev pub Image : Type 0
Image = Info → Tree → ℕ → Option Tree

-- Both are well formed, with columns of the same kinds; `out` names no set that `rel` doesn't name, and means the same.
pub record StandsFor (info : Info) (out rel : Tree) : Type 0 where
  pub own : RelType
  pub other : RelType
  pub well_formed : type_of info out ≡ Some own
  pub over : type_of info rel ≡ Some other
  pub kinds : kinds_of own.columns ≡ kinds_of other.columns
  pub sets : (p : ℕ → Bool) → EachHole (λ k. p k ≡ true) rel → EachHole (λ k. p k ≡ true) out
  pub means : MeansTheSame info out rel

-- Images stand for their trees. Where sets have other numbers and types at most as wide, the image is the same but for the numbers.
-- From `width` on there is none, and `width` doesn't look at sets.
pub record IsLawful (width : Info → ℕ) (image : Image) : Type 0 where
  pub below_width : (info : Info) (rel : Tree) (n : ℕ) → width info ≤ n → image info rel n ≡ None
  pub fixed_width : (from to : Info) → DiffersInSets from to → width to ≡ width from
  pub stands : (info : Info) (rel out : Tree) (n : ℕ) → image info rel n ≡ Some out → StandsFor info out rel
  pub steady : (m : ℕ → ℕ) (from to : Info) (rel out : Tree) (n : ℕ) → IsValidSchema from.schema → Narrows m from to
      → image from rel n ≡ Some out → image to (renumbered m rel) n ≡ Some (renumbered m out)
