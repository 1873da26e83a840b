-- The root set of the searched memo holds the SELECT, and so its cheapest plan is planned as the SELECT asks.
use Rattle.std.proofs.Common.{◌≡◌, ℕ, Bool, List, map}
use Rattle.cal_schema.specs.declared.schema.Schema.{Schema}
use Rattle.cal_snapshot.specs.Parts.{Parts}
use Rattle.cal_rel.specs.Tree.{Tree, tree_of}
use Rattle.memo_model.specs.Sets.{Sets}
use Rattle.memo_sets.specs.Seen.{sets_of}
use Rattle.plan_answers.specs.Answers.{HoldsTheSelect}
use Rattle.plan_nodes.specs.declared.traits.Convention.TheVariants.{Enumerable}
use Rattle.plan_scans.specs.Scans.{info_over}
use Rattle.rule_hep.specs.Meaning.{Meaning}
use Rattle.search_firings.specs.Seen.{firing_of}
use Rattle.search_model.specs.Firings.{Firing}
use Rattle.sql_algebra.specs.Algebra.{algebra}
use Rattle.sql_tree.specs.declared.select.Select.{Select}
use Rattle.sql_meaning.specs.Order.{keys_of}
use Rattle.sql_meaning.specs.Scope.{scope_of}
use Rattle.volcano_best.specs.Solved.{IsCheapest}
use Rattle.select_planning.specs.declared.planning.Planning.{Planning}
use Rattle.select_planning.specs.Found.{IsFound}
use Rattle.select_planning.specs.Planned.{space_of, IsRewritten, IsPlanned}

pub root-holds : (rules : List Meaning) (budget : ℕ) (schema : Schema) (parts : Parts) (select : Select) (own result : Tree) (m : Sets) (root : ℕ) (firings : List Firing) (complete : Bool)
    → IsFound rules budget (info_over schema parts) select own result m root firings complete → HoldsTheSelect (info_over schema parts) m root select
root-holds rules budget schema parts select own result m root firings complete found = record {
  sound = found.searched.sound;
  tree = found.start;
  no_hole = found.no_hole;
  keeps = found.keeps;
  stands = found.stands;
}

pub is-planned : (rules : List Meaning) (budget : ℕ) (schema : Schema) (parts : Parts) (select : Select) (planning : Planning) → IsRewritten rules (info_over schema parts) (algebra schema select) planning.hep
    → IsFound rules budget (info_over schema parts) select (algebra schema select) (tree_of planning.hep.result) (sets_of planning.memo) planning.root (map firing_of planning.firings) planning.complete
    → IsCheapest (space_of schema parts planning) planning.root (keys_of (scope_of schema select) select) (record { plan = planning.plan; cost = planning.cost })
    → planning.traits ≡ record { convention = Enumerable; collation = keys_of (scope_of schema select) select } → planning.estimates ≡ (space_of schema parts planning).estimates
    → planning.tiles ≡ map (λ tile. tile.instance) parts.tiles → IsPlanned rules budget schema parts select planning
is-planned rules budget schema parts select planning hep found cheapest traits estimates tiles = record {
  hep = hep;
  start = found.start;
  is_start = found.is_start;
  explored = record { root = found.stands; searched = found.searched; grown = found.grown };
  cheapest = record { traits = traits; cheapest = cheapest; estimates = estimates; tiles = tiles };
}
