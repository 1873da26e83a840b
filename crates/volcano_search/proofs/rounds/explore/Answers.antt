use Rattle.std.proofs.Common.{List, [], map, sym, ◌∙◌, ap, subst}
use Rattle.std.specs.Prelude.{Contains}
use Rattle.std.proofs.lemmas.List.{length-map}
use Rattle.rule_hep.specs.Meaning.{Meaning}
use Rattle.memo_model.proofs.KeepLemmas.{keeps-refl, keeps-trans}
use Rattle.memo_sets.specs.Seen.{sets_of}
use Rattle.search_model.specs.Search.{IsTriples}
use Rattle.search_model.specs.Listed.{listed}
use Rattle.search_model.proofs.TripleLemmas.{listed-triples}
use Rattle.search_firings.specs.declared.firing.Firing.{Firing}
use Rattle.search_firings.specs.Seen.{firing_of, firings_of}
use Rattle.volcano_search.specs.Explored.{IsExplored}
use Rattle.volcano_search.specs.Went.{is_complete}
use Rattle.volcano_search.proofs.ExploreLemmas.{search-start, explored, fell, grown-itself, grown-trans}
use Rattle.volcano_search.proofs.rounds.explore.Goals as goal

pub rounds-init : goal.rounds-init
rounds-init g c =
    let all : List Meaning = map (λ b. (goal.Rule-dyn g (b.vtable, b.value)).meaning b.value) c.args.rules.now in
    let m = sets_of c.args.memo in
    record {
      search = rw c.new.ensures (search-start c.args.info.now all c.args.budget m c.requires);
      keeps = keeps-refl c.args.info.now m c.requires.coherent;
      grown = rw c.new.ensures (grown-itself c.args.info.now all m []);
    }

pub pass-requires-clause-triples : goal.pass-requires-clause-triples
pass-requires-clause-triples g c =
    let all : List Meaning = map (λ b. (goal.Rule-dyn g (b.vtable, b.value)).meaning b.value) c.args.rules.now in
    let members = (sets_of c.rounds.search.memo).members in
    let is = subst (IsTriples c.args.info.now all members) (sym c.in_ok-triples.ensures) (listed-triples c.args.info.now all members) in
    λ f h. is.only f (subst (λ (xs : List Firing). Contains (map firing_of xs) f) c.as_slice.ensures h)

pub returns-then-ends-clause-explored : goal.returns-then-ends-clause-explored
returns-then-ends-clause-explored g c =
    let all : List Meaning = map (λ b. (goal.Rule-dyn g (b.vtable, b.value)).meaning b.value) c.args.rules.now in
    let cur = sets_of c.rounds.search.memo in
    let new = sets_of c.pass.new.self.memo in
    let after = firings_of c.pass.new.self.fired in
    let is = subst (IsTriples c.args.info.now all cur.members) (sym c.in_ok-triples.ensures) (listed-triples c.args.info.now all cur.members) in
    let triples = subst (λ (xs : List Firing). IsTriples c.args.info.now all cur.members (map firing_of xs)) (sym c.as_slice.ensures) is in
    let whole = explored c.args.info.now all c.args.budget (sets_of c.args.memo) cur new (firings_of c.rounds.search.fired) after (map firing_of c.as_slice.result.now)
    c.in_ok-went.went c.is_complete-complete.result triples c.rounds.invariant.keeps c.in_ok-went.ensures (sym c.ends.ensures ∙ c.if-ends.true)
    (c.is_complete-complete.ensures ∙ ap (λ n. is_complete c.in_ok-went.went n c.args.budget) c.len.ensures) in
    rw (sym c.in_ok-made.ensures.memo, sym c.in_ok-made.ensures.firings, sym c.in_ok-made.ensures.complete) at whole

pub returns-then-ends-clause-grown : goal.returns-then-ends-clause-grown
returns-then-ends-clause-grown g c =
    let all : List Meaning = map (λ b. (goal.Rule-dyn g (b.vtable, b.value)).meaning b.value) c.args.rules.now in
    let whole = grown-trans c.args.info.now all (sets_of c.args.memo) (sets_of c.rounds.search.memo) (sets_of c.pass.new.self.memo) [] (firings_of c.rounds.search.fired)
    (firings_of c.pass.new.self.fired) c.rounds.invariant.grown c.in_ok-went.ensures.grown in
    rw (sym c.in_ok-made.ensures.memo, sym c.in_ok-made.ensures.firings) at whole

pub rounds-preserved : goal.rounds-preserved
rounds-preserved g c =
    let all : List Meaning = map (λ b. (goal.Rule-dyn g (b.vtable, b.value)).meaning b.value) c.args.rules.now in
    record {
      search = c.in_ok-went.ensures.search;
      keeps = keeps-trans (sets_of c.args.memo) (sets_of c.rounds.search.memo) (sets_of c.pass.new.self.memo) c.rounds.invariant.keeps c.in_ok-went.ensures.keeps;
      grown = grown-trans c.args.info.now all (sets_of c.args.memo) (sets_of c.rounds.search.memo) (sets_of c.pass.new.self.memo) [] (firings_of c.rounds.search.fired)
          (firings_of c.pass.new.self.fired) c.rounds.invariant.grown c.in_ok-went.ensures.grown;
    }

pub rounds-smaller : goal.rounds-smaller
rounds-smaller g c =
    let all : List Meaning = map (λ b. (goal.Rule-dyn g (b.vtable, b.value)).meaning b.value) c.args.rules.now in
    fell c.args.info.now all c.args.budget (sets_of c.rounds.search.memo) (sets_of c.pass.new.self.memo) (firings_of c.rounds.search.fired)
    (firings_of c.pass.new.self.fired) (map firing_of c.as_slice.result.now) c.in_ok-went.went c.in_ok-went.ensures (sym c.ends.ensures ∙ c.if-ends.false)
