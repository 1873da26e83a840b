use Rattle.std.proofs.Common.{◌≡◌, take}
use Rattle.std.specs.List.{flat_map}
use Rattle.sql_meaning.specs.Refused.{nearest}
use Rattle.sql_meaning.specs.Sizes.{part_misfits}
use Rattle.sql_types.proofs.sizes.nearest_misfit.Given as goal

abbrev pub invariant-loop-part : goal.invariant-loop-part
invariant-loop-part l = l.found ≡ nearest (flat_map (part_misfits l.rows l.scope) (take l.part-index l.parts))
