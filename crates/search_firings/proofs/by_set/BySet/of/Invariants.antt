use Rattle.std.proofs.Common.{◌≡◌, ℕ, map, take}
use Rattle.memo_sets.specs.Seen.{member_of}
use Rattle.search_model.specs.Listed.{in_set}
use Rattle.search_firings.specs.Seen.{nodes_of}
use Rattle.search_firings.proofs.by_set.BySet.of.Given as goal

abbrev pub invariant-loop-member : goal.invariant-loop-member
invariant-loop-member l = (k : ℕ) → nodes_of l.nodes k ≡ in_set (map member_of (take l.member-index l.members)) k
