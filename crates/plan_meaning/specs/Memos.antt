-- The space of a memo's sets, and when a plan means what a set means.
use Rattle.std.specs.Prelude.{◌≡◌, ◌≢◌, ℕ, List, [], AllPairs}
use Rattle.cal_value.specs.Order.{SameBag}
use Rattle.cal_schema.specs.declared.database.Db.{Db}
use Rattle.cal_schema.specs.declared.tile.TileInfo.{TileInfo}
use Rattle.cal_schema.specs.Fits.{Fits}
use Rattle.cal_rel.specs.Bag.{bag}
use Rattle.cal_rel.specs.Info.{Info}
use Rattle.cal_rel.specs.Operators.{Row}
use Rattle.memo_model.specs.Sets.{Sets, seed_at}
use Rattle.memo_model.specs.Sound.{over}
use Rattle.plan_nodes.specs.PlanTrees.{PlanTree}
use Rattle.phys_plan.specs.Spaces.{Space}
use Rattle.plan_meaning.specs.Bags.{plan_bag}

-- the members and the types are those of the sets, over this schema with its tiles
pub record IsSpaceOf (space : Space) (base : Info) (sets : Sets) : Type 0 where
  pub members : space.members ≡ sets.members
  pub info : space.info ≡ over base sets.types

-- no two tiles are of one instance
pub record AreApart (tiles : List TileInfo) : Type 0 where
  pub apart : AllPairs (λ a b. a.instance ≢ b.instance) tiles

-- over every database that fits, the plan means the bag of the set's seed, which has no holes
pub record MeansSet (info : Info) (sets : Sets) (set : ℕ) (tree : PlanTree) : Type 0 where
  pub rows : (db : Db) (holes : ℕ → List Row) → Fits db info.schema → SameBag (plan_bag info db tree) (bag (over info []) db holes (seed_at sets.seeds set))
