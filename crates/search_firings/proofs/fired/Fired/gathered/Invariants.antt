use Rattle.std.proofs.Common.{◌≡◌, map, drop, []}
use Rattle.memo_model.specs.Sets.{became}
use Rattle.memo_sets.specs.Seen.{sets_of}
use Rattle.search_model.specs.Search.{gathered}
use Rattle.search_firings.specs.Seen.{firing_of, firings_of}
use Rattle.search_firings.proofs.fired.Fired.gathered.Given as goal

abbrev pub invariant-loop-firing : goal.invariant-loop-firing
invariant-loop-firing l =
    gathered (became (sets_of l.memo).numbers) [] (firings_of l.self)
    ≡ gathered (became (sets_of l.memo).numbers) (firings_of l.all) (map firing_of (drop l.firing-index l.self.firings.keys))
