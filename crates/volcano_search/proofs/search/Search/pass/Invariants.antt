use Rattle.std.proofs.Common.{List, map}
use Rattle.rule_hep.specs.Meaning.{Meaning}
use Rattle.memo_sets.specs.Seen.{sets_of}
use Rattle.search_firings.specs.Seen.{firing_of, firings_of}
use Rattle.volcano_search.specs.Went.{IsSoFar}
use Rattle.volcano_search.proofs.search.Search.pass.Given as goal

abbrev pub invariant-loop-triple : goal.invariant-loop-triple
invariant-loop-triple g l =
    let all : List Meaning = map (λ b. (goal.Rule-dyn g (b.vtable, b.value)).meaning b.value) l.rules in
    IsSoFar l.info all l.budget (sets_of l.fn.self.memo) (sets_of l.self.memo) (firings_of l.fn.self.fired) (firings_of l.self.fired) (map firing_of l.triples) l.triple-index l.fired
