use Rattle.std.proofs.Common.{◌≡◌, ◌+◌, ◌-◌, ℕ, length}
use Rattle.search_firings.specs.Seen.{nodes_of}
use Rattle.search_firings.proofs.by_set.BySet.grow.Given as goal

abbrev pub invariant-loop-alloc : goal.invariant-loop-alloc
invariant-loop-alloc l = (k : ℕ) → nodes_of l.self k ≡ nodes_of l.fn.self k

abbrev pub decreases-loop-alloc : goal.decreases-loop-alloc
decreases-loop-alloc l = l.set + 1 - length l.self.sets.items
