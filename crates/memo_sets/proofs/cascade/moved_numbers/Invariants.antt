use Rattle.std.proofs.Common.{◌≡◌, map, take}
use Rattle.memo_model.specs.Steps.{in_place}
use Rattle.memo_sets.proofs.cascade.moved_numbers.Given as goal

abbrev pub invariant-loop-number : goal.invariant-loop-number
invariant-loop-number l = l.all ≡ map (in_place l.kept l.gone) (take l.number-index l.numbers)
