-- When two trees mean the same, and of which rows the types of sets are true.
use Rattle.std.specs.Prelude.{◌≡◌, ℕ, List, Option, Some}
use Rattle.cal_value.specs.Order.{SameBag}
use Rattle.cal_schema.specs.declared.database.Db.{Db}
use Rattle.cal_schema.specs.declared.rel_type.RelType.{RelType}
use Rattle.cal_schema.specs.Fits.{Fits}
use Rattle.cal_schema.specs.RelType.{IsTrueOf}
use Rattle.cal_rel.specs.Bag.{bag, width}
use Rattle.cal_rel.specs.Info.{Info, set_at}
use Rattle.cal_rel.specs.Operators.{Row}
use Rattle.cal_rel.specs.Tree.{Tree}

-- the type of each set that is there is true of the rows in its hole
pub record AreTrueOf (sets : List (Option RelType)) (holes : ℕ → List Row) : Type 0 where
  pub each : (k : ℕ) (t : RelType) → set_at sets k ≡ Some t → IsTrueOf t (holes k)

-- rows of as many columns, and over every database and all rows that fit the same bag
pub record MeansTheSame (info : Info) (a b : Tree) : Type 0 where
  pub columns : width info a ≡ width info b
  pub rows : (db : Db) (holes : ℕ → List Row) → Fits db info.schema → AreTrueOf info.sets holes → SameBag (bag info db holes a) (bag info db holes b)
