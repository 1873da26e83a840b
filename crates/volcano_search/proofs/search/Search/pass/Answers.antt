use Rattle.std.proofs.Common.{map, List, sym, ◌∙◌, ap, subst}
use Rattle.std.proofs.lemmas.List.{get_or-map}
use Rattle.rule_hep.specs.Meaning.{Meaning}
use Rattle.memo_model.proofs.ListLemmas.{contains-map}
use Rattle.memo_sets.specs.Seen.{sets_of}
use Rattle.search_model.specs.Firings as plain
use Rattle.search_model.specs.Search.{IsTriple}
use Rattle.search_model.proofs.SearchLemmas.{triple-kept}
use Rattle.search_firings.specs.Seen.{firing_of, firings_of}
use Rattle.volcano_search.specs.Went.{IsStep}
use Rattle.volcano_search.proofs.PassLemmas.{so_far-start, so_far-next, so_far-stops}
use Rattle.volcano_search.proofs.search.Search.pass.Goals as goal

pub loop-triple-init : goal.loop-triple-init
loop-triple-init g c =
    let all : List Meaning = map (λ b. (goal.Rule-dyn g (b.vtable, b.value)).meaning b.value) c.args.rules.now in
    so_far-start c.args.info.now all c.args.budget (sets_of c.args.self.now.memo) (firings_of c.args.self.now.fired) (map firing_of c.args.triples.now) c.requires.search

pub turn-requires-clause-triple : goal.turn-requires-clause-triple
turn-requires-clause-triple g c =
    let all : List Meaning = map (λ b. (goal.Rule-dyn g (b.vtable, b.value)).meaning b.value) c.args.rules.now in
    let x = c.triple-item.result in
    let there = contains-map firing_of c.args.triples.now x (c.loop-triple.triple-index, c.loop-triple-test.true, sym c.triple-item.is) in
    let cur = sets_of c.loop-triple.self.memo in
    let on = triple-kept c.args.info.now all (sets_of c.args.self.now.memo) cur c.loop-triple.invariant.keeps (firing_of x) (c.requires.triples (firing_of x) there) in
    subst (IsTriple c.args.info.now all cur.members) (sym c.in_ok-at.ensures) on

pub returns-then-stops : goal.returns-then-stops
returns-then-stops g c =
    let all : List Meaning = map (λ b. (goal.Rule-dyn g (b.vtable, b.value)).meaning b.value) c.args.rules.now in
    let info = c.args.info.now in
    let old = sets_of c.args.self.now.memo in
    let before = firings_of c.args.self.now.fired in
    let triples = map firing_of c.args.triples.now in
    let x = c.triple-item.result in
    let there = contains-map firing_of c.args.triples.now x (c.loop-triple.triple-index, c.loop-triple-test.true, sym c.triple-item.is) in
    let cur = sets_of c.loop-triple.self.memo in
    let mid = firings_of c.loop-triple.self.fired in
    let new = sets_of c.turn.new.self.memo in
    let after = firings_of c.turn.new.self.fired in
    let step = subst (λ (z : plain.Firing). IsStep info all c.args.budget cur new mid after z c.in_ok-went.went) c.in_ok-at.ensures c.in_ok-went.ensures in
    so_far-stops info all c.args.budget old before triples c.requires.search cur new mid after c.loop-triple.triple-index c.loop-triple.fired (firing_of x) c.loop-triple.invariant
    (c.requires.triples (firing_of x) there) (λ d. get_or-map firing_of c.args.triples.now c.loop-triple.triple-index x d c.loop-triple-test.true ∙ ap firing_of (sym c.triple-item.is))
    c.in_ok-went.went step (sym c.stops.ensures ∙ c.if-stops.true)

pub loop-triple-preserved : goal.loop-triple-preserved
loop-triple-preserved g c =
    let all : List Meaning = map (λ b. (goal.Rule-dyn g (b.vtable, b.value)).meaning b.value) c.args.rules.now in
    let info = c.args.info.now in
    let old = sets_of c.args.self.now.memo in
    let before = firings_of c.args.self.now.fired in
    let triples = map firing_of c.args.triples.now in
    let x = c.triple-item.result in
    let there = contains-map firing_of c.args.triples.now x (c.loop-triple.triple-index, c.loop-triple-test.true, sym c.triple-item.is) in
    let cur = sets_of c.loop-triple.self.memo in
    let mid = firings_of c.loop-triple.self.fired in
    let new = sets_of c.turn.new.self.memo in
    let after = firings_of c.turn.new.self.fired in
    let step = subst (λ (z : plain.Firing). IsStep info all c.args.budget cur new mid after z c.in_ok-went.went) c.in_ok-at.ensures c.in_ok-went.ensures in
    let next = so_far-next info all c.args.budget old before triples c.requires.search cur new mid after c.loop-triple.triple-index c.loop-triple.fired (firing_of x) c.loop-triple.invariant
    (c.requires.triples (firing_of x) there) (λ d. get_or-map firing_of c.args.triples.now c.loop-triple.triple-index x d c.loop-triple-test.true ∙ ap firing_of (sym c.triple-item.is))
    c.in_ok-went.went step (sym c.stops.ensures ∙ c.if-stops.false) in
    rw c.also-fired.ensures next
