-- For the code: what one node makes of the rows of its inputs, and how many columns a plan's rows have.
use Rattle.std.specs.Prelude.{◌≡◌, ℕ, List, [], Some}
use Rattle.std.specs.List.Sorted.{IsPermutation}
use Rattle.cal_value.specs.declared.order.KeyOrder.{KeyOrder}
use Rattle.cal_value.specs.Order.{IsInOrder}
use Rattle.cal_schema.specs.declared.database.Db.{Db}
use Rattle.cal_schema.specs.declared.schema.Schema.{Schema}
use Rattle.cal_schema.specs.declared.tile.TileInfo.{TileInfo}
use Rattle.cal_rel.specs.Info.{Info, info_of}
use Rattle.cal_rel.specs.Operators.{Row}
use Rattle.plan_nodes.specs.declared.nodes.PlanNode.{PlanNode}
use Rattle.plan_nodes.specs.declared.nodes.PlanNode.TheVariants.{Sort}
use Rattle.plan_nodes.specs.declared.plan.Plan.{Plan}
use Rattle.plan_nodes.specs.PlanTrees.{PlanTree, plan_width}
use Rattle.plan_nodes.specs.Seen.{plan_tree}
use Rattle.plan_meaning.specs.Bags.{node_bag}

-- the same rows in the order of the keys
pub record AreSortedBy (keys : List KeyOrder) (rows made : List Row) : Type 0 where
  pub same : IsPermutation rows made
  pub in_order : IsInOrder keys made

-- a sort makes rows in its order; each other node makes the very list that it means, where right rows have so many columns
abbrev pub IsMade : PlanNode → ℕ → List Row → List Row → List Row → Type 0
IsMade (Sort keys) width left right made = AreSortedBy keys left made
IsMade node width left right made = (info : Info) (db : Db) → made ≡ node_bag info db node width left right

-- so many columns have the rows of a plan over the schema, whatever tiles there are
pub record HasWidth (schema : Schema) (p : Plan) (width : ℕ) : Type 0 where
  pub of : (tiles : List TileInfo) (tree : PlanTree) → plan_tree p ≡ Some tree → width ≡ plan_width (info_of schema tiles []) tree
