use Rattle.std.proofs.Common.{◌≡◌, drop}
use Rattle.std.specs.List.{fold}
use Rattle.search_firings.specs.Digest.{mixed}
use Rattle.search_firings.proofs.digest.groups_digest.Given as goal

abbrev pub invariant-loop-group : goal.invariant-loop-group
invariant-loop-group l = fold mixed l.digest (drop l.group-index l.groups) ≡ fold mixed (mixed 12 l.calls) l.groups
