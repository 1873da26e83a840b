use Rattle.std.proofs.Common.{List, [], map}
use Rattle.rule_hep.specs.Meaning.{Meaning}
use Rattle.memo_model.specs.Relations.{Keeps}
use Rattle.memo_sets.specs.Seen.{sets_of}
use Rattle.search_model.specs.Grown.{StaysGrown}
use Rattle.search_model.specs.Measure.{search_left}
use Rattle.search_model.specs.Search.{IsSearch}
use Rattle.search_firings.specs.Seen.{firings_of}
use Rattle.volcano_search.proofs.rounds.explore.Given as goal

abbrev pub invariant-rounds : goal.invariant-rounds
invariant-rounds g l =
    let all : List Meaning = map (λ b. (goal.Rule-dyn g (b.vtable, b.value)).meaning b.value) l.rules in
    record {
      search : IsSearch l.info all l.budget (sets_of l.search.memo) (firings_of l.search.fired);
      keeps : Keeps (sets_of l.fn.memo) (sets_of l.search.memo);
      grown : StaysGrown l.info all (sets_of l.fn.memo) (sets_of l.search.memo) [] (firings_of l.search.fired);
    }

abbrev pub decreases-rounds : goal.decreases-rounds
decreases-rounds g l = search_left l.budget (sets_of l.search.memo) (firings_of l.search.fired)
