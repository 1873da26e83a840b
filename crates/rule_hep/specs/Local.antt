-- Rules of width 1, each given by how it rewrites a tree.
use Rattle.std.specs.Prelude.{◌≡◌, ℕ, Bool, true, false, ◌==◌, List, Option, Some, None, if◌then◌else◌}
use Rattle.std.specs.Cmp.Lexicographic.{pointwise}
use Rattle.cal_value.specs.Order.{SameBag}
use Rattle.cal_value.specs.Types.{same_kind}
use Rattle.cal_schema.specs.declared.database.Db.{Db}
use Rattle.cal_schema.specs.declared.rel_type.RelType.{RelType}
use Rattle.cal_schema.specs.Fits.{Fits}
use Rattle.cal_schema.specs.RelType.{kinds_of}
use Rattle.cal_schema.specs.Valid.{IsValidSchema}
use Rattle.cal_rel.specs.Bag.{bag}
use Rattle.cal_rel.specs.Holes.{renumbered, EachHole, Narrows}
use Rattle.cal_rel.specs.Info.{Info}
use Rattle.cal_rel.specs.Meaning.{AreTrueOf}
use Rattle.cal_rel.specs.Operators.{Row}
use Rattle.cal_rel.specs.Tree.{Tree}
use Rattle.cal_rel.specs.Typing.{type_of}
use Rattle.rule_hep.specs.Law.{Image}

-- both are there, with columns of the same kinds
abbrev pub same_columns : Option RelType → Option RelType → Bool
same_columns (Some s) (Some t) = pointwise same_kind (kinds_of s.columns) (kinds_of t.columns)
same_columns s t = false

-- the rewritten tree, where it and the tree itself are well formed with columns of the same kinds
abbrev pub kept : Info → Tree → Option Tree → Option Tree
kept info rel None = None
kept info rel (Some out) = if same_columns (type_of info out) (type_of info rel) then Some out else None

-- that alone, at n = 0
abbrev pub local_image : (Info → Tree → Option Tree) → Image
local_image rewrite info rel n = if n == 0 then kept info rel (rewrite info rel) else None

abbrev pub one : Info → ℕ
one info = 1

-- what makes such a rule lawful: said of trees that are well formed before and after
pub record IsLocal (rewrite : Info → Tree → Option Tree) : Type 0 where
  pub sets : (info : Info) (rel out : Tree) (p : ℕ → Bool) → rewrite info rel ≡ Some out
      → EachHole (λ k. p k ≡ true) rel → EachHole (λ k. p k ≡ true) out
  pub means : (info : Info) (rel out : Tree) (s t : RelType) → type_of info rel ≡ Some s → type_of info out ≡ Some t → rewrite info rel ≡ Some out
      → (db : Db) (holes : ℕ → List Row) → Fits db info.schema → AreTrueOf info.sets holes → SameBag (bag info db holes out) (bag info db holes rel)
  pub steady : (m : ℕ → ℕ) (from to : Info) (rel out : Tree) (t : RelType) → IsValidSchema from.schema → Narrows m from to → type_of from rel ≡ Some t
      → rewrite from rel ≡ Some out → rewrite to (renumbered m rel) ≡ Some (renumbered m out)
