-- Rows of small plans, written out.
use Rattle.std.specs.Prelude.{◌≡◌, List, [], ◌∷◌}
use Rattle.cal_value.specs.declared.value.Value.TheVariants.{Null}
use Rattle.cal_expr.specs.declared.expr.Expr.{Expr}
use Rattle.cal_expr.specs.declared.expr.Expr.TheVariants.{Column, IsNull}
use Rattle.cal_schema.specs.declared.join_kind.JoinKind.TheVariants.{Inner, Left}
use Rattle.cal_schema.specs.declared.schema.Schema.{Schema}
use Rattle.cal_schema.specs.declared.tile.TileInfo.{TileInfo}
use Rattle.cal_schema.specs.declared.tile.TileKey.{TileKey}
use Rattle.cal_rel.specs.Examples.{int, four, tables, calls, one_column, star, key}
use Rattle.cal_rel.specs.Info.{Info}
use Rattle.plan_nodes.specs.declared.nodes.PlanNode.{PlanNode}
use Rattle.plan_nodes.specs.declared.nodes.PlanNode.TheVariants.{MemScan, CsvScan, TileRead, MemFilter, ToEnumerable, Project, NestedLoopJoin, HashJoin, MergeJoin, HashAggregate, SortedAggregate, EmptyRows, Sort}
use Rattle.plan_nodes.specs.PlanTrees.{PlanTree, nothing, plan}
use Rattle.plan_meaning.specs.Bags.{plan_bag}

-- estimates and lengths are no part of what a plan means
abbrev pub over_none : PlanNode → PlanTree
over_none node = plan node 0 0 nothing nothing

abbrev pub over_one : PlanNode → PlanTree → PlanTree
over_one node a = plan node 0 0 a nothing

abbrev pub over_two : PlanNode → PlanTree → PlanTree → PlanTree
over_two node a b = plan node 0 0 a b

-- a tile of another key, and then one by the first column with a count and the least of the second
abbrev pub other_key : TileKey
other_key = record { lattice = 0; dims = 3; measures = [] }

abbrev pub tiles : List TileInfo
tiles = record { instance = 4; key = other_key; rows = 4; versions = [] } ∷ record { instance = 7; key = key; rows = 3; versions = [] } ∷ []

abbrev pub small_info : Schema → Info
small_info schema = record { schema = schema; stars = star ∷ []; tiles = tiles; sets = [] }

-- the rows of a table, and rows of one column of which there are none
abbrev pub scanned : PlanTree
scanned = over_one ToEnumerable (over_none (MemScan 0))

abbrev pub none : PlanTree
none = over_none (EmptyRows one_column)

pub record SmallPlans (info : Info) (schema : Schema) (on : Expr) : Type 0 where
  pub mem : plan_bag info tables scanned ≡ four
  pub csv : plan_bag info tables (over_one ToEnumerable (over_none (CsvScan 1))) ≡ []
  pub sorted : plan_bag info tables (over_one (Sort []) scanned) ≡ four
  -- NULL stands in the first column of the second row alone
  pub filtered : plan_bag info tables (over_one (MemFilter (IsNull (Column 0))) (over_none (MemScan 0))) ≡ (Null ∷ int 1 ∷ []) ∷ []
  pub projected : plan_bag info tables (over_one (Project (Column 1 ∷ [])) scanned) ≡ (int 5 ∷ []) ∷ (int 1 ∷ []) ∷ (int 7 ∷ []) ∷ (int 6 ∷ []) ∷ []
  -- without a partner each left row stands alone, with NULL for the one right column, or not at all
  pub alone : plan_bag info tables (over_two (HashJoin Left on) scanned none)
      ≡ (int 2 ∷ int 5 ∷ Null ∷ []) ∷ (Null ∷ int 1 ∷ Null ∷ []) ∷ (int 1 ∷ int 7 ∷ Null ∷ []) ∷ (int 2 ∷ int 6 ∷ Null ∷ []) ∷ []
  pub inner : plan_bag info tables (over_two (NestedLoopJoin Inner on) scanned none) ≡ []
  pub merged : plan_bag info tables (over_two (MergeJoin on) scanned none) ≡ []
  pub groups : plan_bag info tables (over_one (SortedAggregate (0 ∷ []) calls) scanned)
      ≡ (int 2 ∷ int 2 ∷ int 2 ∷ int 11 ∷ []) ∷ (Null ∷ int 1 ∷ int 0 ∷ int 1 ∷ []) ∷ (int 1 ∷ int 1 ∷ int 1 ∷ int 7 ∷ []) ∷ []
  pub one_group : plan_bag info tables (over_one (HashAggregate [] calls) none) ≡ (int 0 ∷ int 0 ∷ Null ∷ []) ∷ []
  -- a tile is read by its instance
  pub tile : plan_bag (small_info schema) tables (over_one ToEnumerable (over_none (TileRead 7)))
      ≡ (int 1 ∷ int 1 ∷ int 7 ∷ []) ∷ (int 2 ∷ int 2 ∷ int 5 ∷ []) ∷ (Null ∷ int 1 ∷ int 1 ∷ []) ∷ []
  pub no_tile : plan_bag (small_info schema) tables (over_none (TileRead 5)) ≡ []
