use Rattle.std.proofs.Common.{◌≡◌, ◌++◌, map, drop}
use Rattle.search_firings.specs.Steps.{asked_from}
use Rattle.search_firings.proofs.listing.ask_each.Given as goal

abbrev pub invariant-loop-k : goal.invariant-loop-k
invariant-loop-k g l =
    l.all ++ asked_from l.info l.k (map (λ b. (goal.Rule-dyn g (b.vtable, b.value)).meaning b.value) (drop l.k l.rules))
    ≡ asked_from l.info 0 (map (λ b. (goal.Rule-dyn g (b.vtable, b.value)).meaning b.value) l.rules)
