-- Plans of the space of a sound memo.
use Rattle.std.proofs.Common.{◌≡◌, ℕ, List, [], Some, sym, ap₂, subst}
use Rattle.cal_value.specs.declared.order.KeyOrder.{KeyOrder}
use Rattle.cal_value.specs.Order.{SameBag}
use Rattle.cal_schema.specs.declared.database.Db.{Db}
use Rattle.cal_schema.specs.Fits.{Fits}
use Rattle.cal_rel.specs.Bag.{bag, set_width}
use Rattle.cal_rel.specs.Info.{Info}
use Rattle.cal_rel.proofs.Totals.{SameBag-from_Weighs}
use Rattle.memo_model.specs.Sets.{Member, Sets, seed_at}
use Rattle.memo_model.specs.Sound.{over, IsSound}
use Rattle.plan_nodes.specs.PlanTrees.{PlanTree}
use Rattle.phys_plan.specs.declared.ways.Ask.{Ask}
use Rattle.phys_plan.specs.Plans.{rows_asked}
use Rattle.phys_plan.specs.Realised.{Realised, IsPlanOf}
use Rattle.phys_plan.specs.Spaces.{Space, HasWidths}
use Rattle.plan_meaning.specs.Bags.{plan_bag}
use Rattle.plan_meaning.specs.Memos.{IsSpaceOf, AreApart, MeansSet}
use Rattle.plan_meaning.specs.WellFormed.{HasKeysWithin, ArePartsOf, IsWellFormed}
use Rattle.plan_meaning.proofs.Formed.{plan-formed}
use Rattle.plan_meaning.proofs.Means.{widths, plan-same}
use Rattle.plan_meaning.proofs.Nodes.{plan_bag-over}

abbrev made : List ℕ → List ℕ → List Member → Info → Space
made estimates tables members info = record { members = members; info = info; estimates = estimates; tables = tables }

pub space-is : (info : Info) (sets : Sets) (given : Space) → IsSpaceOf given info sets → given ≡ made given.estimates given.tables sets.members (over info sets.types)
space-is info sets given h = ap₂ (made given.estimates given.tables) h.members h.info

pub asked-means : (info : Info) (sets : Sets) (given : Space) (ask : Ask) (tree : PlanTree) → IsSound info sets → IsSpaceOf given info sets → AreApart info.tiles → Realised given (Some ask) tree
    → MeansSet info sets ask.set tree
asked-means info sets given ask tree sound of_sets apart realised =
    let here : Realised (made given.estimates given.tables sets.members (over info sets.types)) (Some ask) tree =
    subst (λ s. Realised s (Some ask) tree) (space-is info sets given of_sets) realised in
    record {
      rows = λ db holes fits.
          let same = plan-same info sets sound.coherent apart given.estimates given.tables db fits holes (Some ask) tree here in
          let rows = bag (over info []) db holes (seed_at sets.seeds ask.set) in
          subst (λ bag. SameBag bag rows) (plan_bag-over info sets.types db tree) (SameBag-from_Weighs (plan_bag (over info sets.types) db tree) rows same);
    }

pub plan-means : (info : Info) (sets : Sets) (given : Space) (set : ℕ) (order : List KeyOrder) (tree : PlanTree) → IsSound info sets → IsSpaceOf given info sets → AreApart info.tiles
    → IsPlanOf given set order tree → MeansSet info sets set tree
plan-means info sets given set order tree sound of_sets apart plan = asked-means info sets given (rows_asked set order) tree sound of_sets apart plan.realised

pub space-widths : (info : Info) (sets : Sets) (given : Space) → IsSound info sets → IsSpaceOf given info sets → AreApart info.tiles → HasWidths given
space-widths info sets given sound of_sets apart =
    subst HasWidths (sym (space-is info sets given of_sets)) (widths info sets sound.coherent apart given.estimates given.tables)

pub plan-well_formed : (info : Info) (sets : Sets) (given : Space) (set : ℕ) (order : List KeyOrder) (tree : PlanTree) (db : Db) → IsSound info sets → IsSpaceOf given info sets → AreApart info.tiles
    → ArePartsOf given db → Fits db info.schema → HasKeysWithin (set_width (over info sets.types) set) order → IsPlanOf given set order tree → IsWellFormed info db tree
plan-well_formed info sets given set order tree db sound of_sets apart parts fit within plan =
    let is = space-is info sets given of_sets in
    let realised : Realised (made given.estimates given.tables sets.members (over info sets.types)) (Some (rows_asked set order)) tree = subst (λ s. Realised s (Some (rows_asked set order)) tree) is plan.realised in
    let lengths : ArePartsOf (made given.estimates given.tables sets.members (over info sets.types)) db = subst (λ s. ArePartsOf s db) is parts in
    (plan-formed info sets sound.coherent apart given.estimates given.tables db fit lengths (Some (rows_asked set order)) tree realised within).well
