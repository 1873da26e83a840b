-- How a SELECT is planned.
use Rattle.std.specs.Prelude.{◌≡◌, ◌↔◌, ℕ, List, [], ◌∷◌, length, map, IsTrue}
use Rattle.cal_value.specs.declared.order.KeyOrder.{KeyOrder}
use Rattle.cal_schema.specs.declared.schema.Schema.{Schema}
use Rattle.cal_snapshot.specs.Parts.{Parts}
use Rattle.cal_rel.specs.Info.{Info}
use Rattle.cal_rel.specs.Tree.{Tree, tree_of}
use Rattle.memo_model.specs.Sets.{Stands}
use Rattle.memo_sets.specs.Seen.{sets_of}
use Rattle.rule_hep.specs.declared.planner.HepRecord.{HepRecord}
use Rattle.rule_hep.specs.Meaning.{Meaning}
use Rattle.rule_hep.specs.Run.{hep_run, last_result}
use Rattle.rule_hep.specs.Seen.{step_of}
use Rattle.search_firings.specs.Seen.{firing_of}
use Rattle.search_model.specs.Grown.{IsGrown}
use Rattle.volcano_search.specs.Explored.{IsSearched}
use Rattle.plan_nodes.specs.declared.traits.Convention.TheVariants.{Enumerable}
use Rattle.phys_plan.specs.Spaces.{Space}
use Rattle.plan_scans.specs.Scans.{info_over}
use Rattle.plan_spaces.specs.Made.{made}
use Rattle.volcano_best.specs.Solved.{IsCheapest}
use Rattle.sql_tree.specs.declared.select.Select.{Select}
use Rattle.sql_meaning.specs.Order.{keys_of}
use Rattle.sql_meaning.specs.Scope.{scope_of}
use Rattle.sql_algebra.specs.Algebra.{algebra}
use Rattle.select_planning.specs.declared.planning.TheConstants.{HEP_LIMIT}
use Rattle.select_planning.specs.declared.planning.Planning.{Planning}
use Rattle.select_planning.specs.Start.{IsStart}

-- The record is that of the steps by which these rules rewrite a tree, at most so many.
pub record IsRewritten (rules : List Meaning) (info : Info) (tree : Tree) (hep : HepRecord) : Type 0 where
  pub log : map step_of hep.log ≡ hep_run HEP_LIMIT rules info tree
  pub result : tree_of hep.result ≡ last_result tree (map step_of hep.log)
  pub stopped : IsTrue hep.stopped ↔ (length hep.log ≡ HEP_LIMIT)

-- The start tree stands in the root set of a sound memo, whose members come from this tree and from the firings of these rules; these
-- are at most as many as the budget, and nothing is left to fire where the search is complete.
pub record IsExploredFrom (rules : List Meaning) (budget : ℕ) (info : Info) (start : Tree) (planning : Planning) : Type 0 where
  pub root : Stands (sets_of planning.memo).members planning.root start
  pub searched : IsSearched info rules budget (sets_of planning.memo) (map firing_of planning.firings) planning.complete
  pub grown : IsGrown info rules (start ∷ []) (sets_of planning.memo) (map firing_of planning.firings)

-- what the plans of the memo are made of, over the snapshot
abbrev pub space_of : Schema → Parts → Planning → Space
space_of schema parts planning = made (info_over schema parts) (sets_of planning.memo) parts

-- The plan is one of the root set, in this order, and no such plan costs less; the estimate of each set is told, and the instance of each tile.
pub record IsCheapestIn (schema : Schema) (parts : Parts) (order : List KeyOrder) (planning : Planning) : Type 0 where
  pub traits : planning.traits ≡ record { convention = Enumerable; collation = order }
  pub cheapest : IsCheapest (space_of schema parts planning) planning.root order (record { plan = planning.plan; cost = planning.cost })
  pub estimates : planning.estimates ≡ (space_of schema parts planning).estimates
  pub tiles : planning.tiles ≡ map (λ tile. tile.instance) parts.tiles

-- The SELECT's own tree is rewritten by these rules, a memo is searched from the tree after the steps, and the plan is its cheapest one in
-- the order that the SELECT asks.
pub record IsPlanned (rules : List Meaning) (budget : ℕ) (schema : Schema) (parts : Parts) (select : Select) (planning : Planning) : Type 0 where
  pub hep : IsRewritten rules (info_over schema parts) (algebra schema select) planning.hep
  pub start : Tree
  pub is_start : IsStart (info_over schema parts) (algebra schema select) (tree_of planning.hep.result) start
  pub explored : IsExploredFrom rules budget (info_over schema parts) start planning
  pub cheapest : IsCheapestIn schema parts (keys_of (scope_of schema select) select) planning
