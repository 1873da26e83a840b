use Rattle.std.proofs.Common.{◌≡◌, take}
use Rattle.std.specs.List.{flat_map}
use Rattle.sql_meaning.specs.Groups.{part_ungrouped}
use Rattle.sql_meaning.specs.Refused.{lowest}
use Rattle.sql_validator.proofs.groups.parts_ungrouped.Given as goal

abbrev pub invariant-loop-part : goal.invariant-loop-part
invariant-loop-part l = l.found ≡ lowest (flat_map (part_ungrouped l.scope l.groups) (take l.part-index l.parts))
