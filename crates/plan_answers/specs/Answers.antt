-- When a set of a memo holds a SELECT, and when a plan answers it.
use Rattle.std.specs.Prelude.{◌≡◌, ℕ, List, [], IsTrue, IsSome, Some}
use Rattle.cal_value.specs.Order.{SameBag}
use Rattle.cal_schema.specs.declared.database.Db.{Db}
use Rattle.cal_schema.specs.declared.schema.Schema.{Schema}
use Rattle.cal_schema.specs.Fits.{Fits}
use Rattle.cal_snapshot.specs.Parts.{Parts}
use Rattle.cal_rel.specs.Bag.{bag, width}
use Rattle.cal_rel.specs.Holes.{EachHole}
use Rattle.cal_rel.specs.Info.{Info, info_of}
use Rattle.cal_rel.specs.Tree.{Tree}
use Rattle.cal_rel.specs.Typing.{type_of}
use Rattle.memo_model.specs.Sets.{Sets, Stands}
use Rattle.memo_model.specs.Sound.{IsSound}
use Rattle.plan_nodes.specs.declared.plan.Plan.{Plan}
use Rattle.plan_nodes.specs.Orders.{is_prefix}
use Rattle.plan_nodes.specs.PlanTrees.{PlanTree, order_of}
use Rattle.plan_nodes.specs.Seen.{plan_tree}
use Rattle.plan_meaning.specs.Bags.{plan_bag}
use Rattle.plan_meaning.specs.WellFormed.{IsWellFormed, ArePartsOf}
use Rattle.plan_spaces.specs.Made.{made}
use Rattle.sql_tree.specs.declared.select.Select.{Select}
use Rattle.sql_meaning.specs.Direct.{direct}
use Rattle.sql_meaning.specs.Order.{keys_of}
use Rattle.sql_meaning.specs.Scope.{scope_of}
use Rattle.sql_algebra.specs.Algebra.{algebra}

-- The tree is well formed and has as many columns as the SELECT's own, and over each database that fits it means each row as often as the
-- SELECT does.
pub record KeepsTheSelect (info : Info) (select : Select) (tree : Tree) : Type 0 where
  pub well_formed : IsSome (type_of info tree)
  pub columns : width info tree ≡ width info (algebra info.schema select)
  pub rows : (db : Db) → Fits db info.schema → SameBag (bag info db (λ set. []) tree) (direct select info.schema db)

-- a tree without holes that keeps the SELECT stands in the set of a sound memo
pub record HoldsTheSelect (info : Info) (sets : Sets) (set : ℕ) (select : Select) : Type 0 where
  pub sound : IsSound info sets
  pub tree : Tree
  pub no_hole : EachHole (λ k. ⊥) tree
  pub keeps : KeepsTheSelect info select tree
  pub stands : Stands sets.members set tree

-- The plan is well formed over each database that fits and has the lengths of the parts, means each row as often as the SELECT does, and gives
-- them in the order that the SELECT asks.
pub record AnswersTheSelect (schema : Schema) (parts : Parts) (sets : Sets) (select : Select) (p : Plan) : Type 0 where
  pub tree : PlanTree
  pub is : plan_tree p ≡ Some tree
  pub well_formed : (db : Db) → Fits db schema → ArePartsOf (made (info_of schema parts.tiles []) sets parts) db → IsWellFormed (info_of schema parts.tiles []) db tree
  pub rows : (db : Db) → Fits db schema → SameBag (plan_bag (info_of schema parts.tiles []) db tree) (direct select schema db)
  pub ordered : IsTrue (is_prefix (keys_of (scope_of schema select) select) (order_of (info_of schema parts.tiles []) tree))
