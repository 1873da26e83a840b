use Rattle.std.proofs.Common.{◌≡◌, map, List, Some, true, false, sym, ◌∙◌, ap}
use Rattle.std.specs.Option.{option_map}
use Rattle.cal_rel.specs.Tree.{tree_of}
use Rattle.rule_hep.specs.Meaning.{Meaning}
use Rattle.memo_sets.specs.Seen.{sets_of}
use Rattle.search_model.specs.Search.{among}
use Rattle.search_firings.specs.Seen.{firing_of, firings_of}
use Rattle.volcano_search.proofs.StepLemmas.{step-none, step-among}
use Rattle.volcano_search.proofs.search.Search.step.Goals as goal

pub returns-then-has : goal.returns-then-has
returns-then-has g c =
    let all : List Meaning = map (λ b. (goal.Rule-dyn g (b.vtable, b.value)).meaning b.value) c.args.rules.now in
    let is : among (firing_of c.args.at.now) (firings_of c.args.self.now.fired) ≡ true = sym c.has.ensures ∙ c.if-has.true in
    step-among c.args.info.now all c.args.budget (sets_of c.args.self.now.memo) (firings_of c.args.self.now.fired) (firing_of c.args.at.now) c.requires.search c.requires.triple is

pub returns-in-None : goal.returns-in-None
returns-in-None g c =
    let all : List Meaning = map (λ b. (goal.Rule-dyn g (b.vtable, b.value)).meaning b.value) c.args.rules.now in
    let law = c.requires.triple.law in
    step-none c.args.info.now all c.args.budget (sets_of c.args.self.now.memo) (firings_of c.args.self.now.fired) (firing_of c.args.at.now) c.requires.search c.requires.triple
    (sym (c.in_ok-made.ensures law c.requires.triple.rule) ∙ ap (option_map tree_of) c.in-None.is)
