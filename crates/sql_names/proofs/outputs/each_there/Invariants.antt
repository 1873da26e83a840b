use Rattle.std.proofs.Common.{◌≡◌, map, take, Some}
use Rattle.sql_names.proofs.outputs.each_there.Given as goal

abbrev pub invariant-loop-at : goal.invariant-loop-at
invariant-loop-at l = l.all ≡ map Some (take l.at-index l.places)
