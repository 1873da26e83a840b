-- The rows of a plan that answers the SELECT are an answer.
use Rattle.std.proofs.Common.{◌≡◌, ◌∙◌, ℕ, sym, subst, List, [], Some, arith}
use Rattle.cal_value.specs.declared.value.Value.{Value}
use Rattle.cal_schema.specs.declared.schema.Schema.{Schema}
use Rattle.cal_schema.specs.declared.tile.TileInfo.{TileInfo}
use Rattle.cal_schema.specs.Fits.{Fits}
use Rattle.cal_snapshot.specs.Parts.{Parts}
use Rattle.memo_sets.specs.Seen.{sets_of}
use Rattle.plan_answers.specs.Answers.{AnswersTheSelect}
use Rattle.plan_nodes.specs.Orders.{tile_of}
use Rattle.plan_nodes.specs.PlanTrees.{order_of}
use Rattle.plan_meaning.specs.Memos.{AreApart}
use Rattle.plan_orders.proofs.UpTo.{prefix-order}
use Rattle.plan_scans.specs.Scans.{HoldsTiles, info_over, tables_of}
use Rattle.plan_spaces.proofs.PartLemmas.{are-parts}
use Rattle.row_exec.specs.Run.{CanRun, IsRun}
use Rattle.sql_tree.specs.declared.select.Select.{Select}
use Rattle.sql_meaning.specs.Answer.{IsAnswer}
use Rattle.sql_meaning.specs.Order.{keys_of}
use Rattle.sql_meaning.specs.Scope.{scope_of}
use Rattle.select_planning.specs.declared.planning.Planning.{Planning}

-- ---- a snapshot without tiles

pub apart-none : (tiles : List TileInfo) → tiles ≡ [] → AreApart tiles
apart-none tiles none = subst AreApart (sym none) (record { apart = λ i j d below inside. absurd (omega arith) })

pub holds-none : (schema : Schema) (parts : Parts) → parts.tiles ≡ [] → HoldsTiles schema parts
holds-none schema parts none = record { rows = λ instance tile e. absurd (gone instance tile (subst (λ (ts : List TileInfo). tile_of ts instance ≡ Some tile) none e)) }
  where
    gone : (instance : ℕ) (tile : TileInfo) → tile_of [] instance ≡ Some tile → ⊥
    gone instance tile e = Prim.cc

-- ---- the rows of the plan

pub can-run : (schema : Schema) (parts : Parts) (select : Select) (planning : Planning) → Fits (tables_of parts) schema → parts.tiles ≡ [] → AnswersTheSelect schema parts (sets_of planning.memo) select planning.plan
    → CanRun schema parts planning.plan
can-run schema parts select planning fits none answers =
    record { tree = answers.tree; is = answers.is; formed = answers.well_formed (tables_of parts) fits (are-parts schema (sets_of planning.memo) parts fits none) }

pub is-answer : (schema : Schema) (parts : Parts) (select : Select) (planning : Planning) (rows : List (List Value)) → Fits (tables_of parts) schema → AnswersTheSelect schema parts (sets_of planning.memo) select planning.plan
    → IsRun schema parts planning.plan rows → IsAnswer select schema (tables_of parts) rows
is-answer schema parts select planning rows fits answers run =
    let ran = run.of answers.tree answers.is in
    record {
      bag = λ r. ran.same r ∙ answers.rows (tables_of parts) fits r;
      order = prefix-order (order_of (info_over schema parts) answers.tree) (keys_of (scope_of schema select) select) rows answers.ordered ran.in_order;
    }

pub ruleset tile_rules = (apart-none)
