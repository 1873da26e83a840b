use Rattle.std.proofs.Common.{◌≡◌, ◌∷◌, take}
use Rattle.rule_hep.proofs.paths.with_first.Given as goal

abbrev pub invariant-loop-step : goal.invariant-loop-step
invariant-loop-step l = l.whole ≡ l.first ∷ take l.step-index l.path
