use Rattle.std.proofs.Common.{◌≡◌, ◌∷◌, ◌++◌, map, take}
use Rattle.rule_hep.proofs.paths.push_below.Given as goal

abbrev pub invariant-loop-path : goal.invariant-loop-path
invariant-loop-path l = l.all ≡ l.initial.all ++ map (λ path. l.first ∷ path) (take l.path-index l.below)
