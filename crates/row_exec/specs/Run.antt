-- The rows of a plan over a snapshot.
use Rattle.std.specs.Prelude.{◌≡◌, List, Some}
use Rattle.cal_value.specs.Order.{IsInOrder, SameBag}
use Rattle.cal_schema.specs.declared.database.Db.{Db}
use Rattle.cal_schema.specs.declared.schema.Schema.{Schema}
use Rattle.cal_rel.specs.Info.{Info}
use Rattle.cal_rel.specs.Operators.{Row}
use Rattle.cal_snapshot.specs.Parts.{Parts}
use Rattle.plan_nodes.specs.declared.plan.Plan.{Plan}
use Rattle.plan_nodes.specs.PlanTrees.{PlanTree, order_of}
use Rattle.plan_nodes.specs.Seen.{plan_tree}
use Rattle.plan_meaning.specs.Bags.{plan_bag}
use Rattle.plan_meaning.specs.WellFormed.{IsWellFormed}
use Rattle.plan_scans.specs.Scans.{info_over, tables_of}

-- the plan is well formed over the snapshot
pub record CanRun (schema : Schema) (parts : Parts) (p : Plan) : Type 0 where
  pub tree : PlanTree
  pub is : plan_tree p ≡ Some tree
  pub formed : IsWellFormed (info_over schema parts) (tables_of parts) tree

-- each row as often as the plan means it, in the order that the plan gives
pub record AreRowsOf (info : Info) (db : Db) (tree : PlanTree) (rows : List Row) : Type 0 where
  pub same : SameBag rows (plan_bag info db tree)
  pub in_order : IsInOrder (order_of info tree) rows

pub record IsRun (schema : Schema) (parts : Parts) (p : Plan) (rows : List Row) : Type 0 where
  pub of : (tree : PlanTree) → plan_tree p ≡ Some tree → AreRowsOf (info_over schema parts) (tables_of parts) tree rows
