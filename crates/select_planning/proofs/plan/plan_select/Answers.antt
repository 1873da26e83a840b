use Rattle.std.proofs.Common.{rules, ◌≡◌, List, map, subst, ap}
use Rattle.cal_rel.specs.Info.{Info}
use Rattle.cal_rel.specs.Tree.{tree_of}
use Rattle.memo_sets.specs.Seen.{sets_of}
use Rattle.plan_nodes.specs.declared.traits.Convention.TheVariants.{Enumerable}
use Rattle.search_firings.specs.Seen.{firing_of}
use Rattle.sql_algebra.specs.Algebra.{algebra}
use Rattle.select_planning.specs.Found.{IsFound}
use Rattle.cal_value.specs.declared.order.KeyOrder.{KeyOrder}
use Rattle.plan_spaces.specs.Made.{made}
use Rattle.sql_meaning.specs.Order.{keys_of}
use Rattle.sql_meaning.specs.Scope.{scope_of}
use Rattle.volcano_best.specs.Solved.{IsCheapest}
use Rattle.plan_answers.specs.Answers.{HoldsTheSelect}
use Rattle.plan_answers.proofs.PlanLemmas.{has-widths, holds-tree, answers}
use Rattle.plan_scans.specs.Scans.{info_over}
use Rattle.select_planning.specs.Planned.{IsRewritten}
use Rattle.select_planning.proofs.PlanLemmas.{root-holds, is-planned}
use Rattle.select_planning.proofs.plan.plan_select.Goals as goal

pub cheapest_of-requires-clause-widths : goal.cheapest_of-requires-clause-widths
cheapest_of-requires-clause-widths g c =
    let all = map (λ b. (goal.Rule-dyn g (b.vtable, b.value)).meaning b.value) c.args.rules.now in
    let own = algebra c.args.schema.now c.args.checked.now.select in
    let over = info_over c.args.schema.now c.args.snapshot.now in
    let info : c.new-info.result ≡ over = search rules in
    let found : IsFound all c.args.budget over c.args.checked.now.select own (tree_of c.in_ok-hep.hep.result) (sets_of c.in_ok-found.found.memo) c.in_ok-found.found.root
    (map firing_of c.in_ok-found.found.firings) c.in_ok-found.found.complete = subst (λ (i : Info). IsFound all c.args.budget i c.args.checked.now.select own (tree_of c.in_ok-hep.hep.result)
    (sets_of c.in_ok-found.found.memo) c.in_ok-found.found.root (map firing_of c.in_ok-found.found.firings) c.in_ok-found.found.complete) info c.in_ok-found.ensures in
    let held : HoldsTheSelect over (sets_of c.in_ok-found.found.memo) c.in_ok-found.found.root c.args.checked.now.select =
    root-holds all c.args.budget c.args.schema.now c.args.snapshot.now c.args.checked.now.select own (tree_of c.in_ok-hep.hep.result) (sets_of c.in_ok-found.found.memo) c.in_ok-found.found.root
    (map firing_of c.in_ok-found.found.firings) c.in_ok-found.found.complete found in
    has-widths c.args.schema.now c.args.snapshot.now (sets_of c.in_ok-found.found.memo) c.in_ok-found.found.root c.args.checked.now.select held c.requires.apart

pub cheapest_of-requires-clause-tree : goal.cheapest_of-requires-clause-tree
cheapest_of-requires-clause-tree g c =
    let all = map (λ b. (goal.Rule-dyn g (b.vtable, b.value)).meaning b.value) c.args.rules.now in
    let own = algebra c.args.schema.now c.args.checked.now.select in
    let over = info_over c.args.schema.now c.args.snapshot.now in
    let info : c.new-info.result ≡ over = search rules in
    let found : IsFound all c.args.budget over c.args.checked.now.select own (tree_of c.in_ok-hep.hep.result) (sets_of c.in_ok-found.found.memo) c.in_ok-found.found.root
    (map firing_of c.in_ok-found.found.firings) c.in_ok-found.found.complete = subst (λ (i : Info). IsFound all c.args.budget i c.args.checked.now.select own (tree_of c.in_ok-hep.hep.result)
    (sets_of c.in_ok-found.found.memo) c.in_ok-found.found.root (map firing_of c.in_ok-found.found.firings) c.in_ok-found.found.complete) info c.in_ok-found.ensures in
    let held : HoldsTheSelect over (sets_of c.in_ok-found.found.memo) c.in_ok-found.found.root c.args.checked.now.select =
    root-holds all c.args.budget c.args.schema.now c.args.snapshot.now c.args.checked.now.select own (tree_of c.in_ok-hep.hep.result) (sets_of c.in_ok-found.found.memo) c.in_ok-found.found.root
    (map firing_of c.in_ok-found.found.firings) c.in_ok-found.found.complete found in
    holds-tree c.args.schema.now c.args.snapshot.now (sets_of c.in_ok-found.found.memo) c.in_ok-found.found.root c.args.checked.now.select held

pub returns-clause-planned : goal.returns-clause-planned
returns-clause-planned g c =
    let all = map (λ b. (goal.Rule-dyn g (b.vtable, b.value)).meaning b.value) c.args.rules.now in
    let own = algebra c.args.schema.now c.args.checked.now.select in
    let over = info_over c.args.schema.now c.args.snapshot.now in
    let info : c.new-info.result ≡ over = search rules in
    let found : IsFound all c.args.budget over c.args.checked.now.select own (tree_of c.in_ok-hep.hep.result) (sets_of c.in_ok-found.found.memo) c.in_ok-found.found.root
    (map firing_of c.in_ok-found.found.firings) c.in_ok-found.found.complete = subst (λ (i : Info). IsFound all c.args.budget i c.args.checked.now.select own (tree_of c.in_ok-hep.hep.result)
    (sets_of c.in_ok-found.found.memo) c.in_ok-found.found.root (map firing_of c.in_ok-found.found.firings) c.in_ok-found.found.complete) info c.in_ok-found.ensures in
    let hep : IsRewritten all over own c.in_ok-hep.hep = subst (λ (i : Info). IsRewritten all i own c.in_ok-hep.hep) info c.in_ok-hep.ensures.hep in
    let cheapest : IsCheapest (made over (sets_of c.in_ok-found.found.memo) c.args.snapshot.now) c.in_ok-found.found.root (keys_of (scope_of c.args.schema.now c.args.checked.now.select) c.args.checked.now.select) c.in_ok-best.best =
    subst (λ (order : List KeyOrder). IsCheapest (made over (sets_of c.in_ok-found.found.memo) c.args.snapshot.now) c.in_ok-found.found.root order c.in_ok-best.best) c.in_ok-hep.ensures.order c.in_ok-best.ensures.plan in
    let tiles : c.in_ok-tiles.tiles ≡ map (λ tile. tile.instance) c.args.snapshot.now.tiles = search rules in
    is-planned all c.args.budget c.args.schema.now c.args.snapshot.now c.args.checked.now.select (record {
      plan = c.in_ok-best.best.plan;
      cost = c.in_ok-best.best.cost;
      traits = record { convention = Enumerable; collation = c.in_ok-hep.keys };
      hep = c.in_ok-hep.hep;
      memo = c.in_ok-found.found.memo;
      root = c.in_ok-found.found.root;
      firings = c.in_ok-found.found.firings;
      complete = c.in_ok-found.found.complete;
      estimates = c.in_ok-best.estimates;
      tiles = c.in_ok-tiles.tiles;
    })
    hep found cheapest (ap (λ (keys : List KeyOrder). record { convention = Enumerable; collation = keys }) c.in_ok-hep.ensures.order) c.in_ok-best.ensures.estimates tiles

pub returns-clause-answers : goal.returns-clause-answers
returns-clause-answers g c =
    let all = map (λ b. (goal.Rule-dyn g (b.vtable, b.value)).meaning b.value) c.args.rules.now in
    let own = algebra c.args.schema.now c.args.checked.now.select in
    let over = info_over c.args.schema.now c.args.snapshot.now in
    let info : c.new-info.result ≡ over = search rules in
    let found : IsFound all c.args.budget over c.args.checked.now.select own (tree_of c.in_ok-hep.hep.result) (sets_of c.in_ok-found.found.memo) c.in_ok-found.found.root
    (map firing_of c.in_ok-found.found.firings) c.in_ok-found.found.complete = subst (λ (i : Info). IsFound all c.args.budget i c.args.checked.now.select own (tree_of c.in_ok-hep.hep.result)
    (sets_of c.in_ok-found.found.memo) c.in_ok-found.found.root (map firing_of c.in_ok-found.found.firings) c.in_ok-found.found.complete) info c.in_ok-found.ensures in
    let cheapest : IsCheapest (made over (sets_of c.in_ok-found.found.memo) c.args.snapshot.now) c.in_ok-found.found.root (keys_of (scope_of c.args.schema.now c.args.checked.now.select) c.args.checked.now.select) c.in_ok-best.best =
    subst (λ (order : List KeyOrder). IsCheapest (made over (sets_of c.in_ok-found.found.memo) c.args.snapshot.now) c.in_ok-found.found.root order c.in_ok-best.best) c.in_ok-hep.ensures.order c.in_ok-best.ensures.plan in
    let held : HoldsTheSelect over (sets_of c.in_ok-found.found.memo) c.in_ok-found.found.root c.args.checked.now.select =
    root-holds all c.args.budget c.args.schema.now c.args.snapshot.now c.args.checked.now.select own (tree_of c.in_ok-hep.hep.result) (sets_of c.in_ok-found.found.memo) c.in_ok-found.found.root
    (map firing_of c.in_ok-found.found.firings) c.in_ok-found.found.complete found in
    answers c.args.schema.now c.args.snapshot.now (sets_of c.in_ok-found.found.memo) c.in_ok-found.found.root c.args.checked.now.select held c.requires.apart c.in_ok-best.best cheapest
