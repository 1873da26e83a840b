use Rattle.std.proofs.Common.{◌≡◌, take}
use Rattle.std.specs.List.{flat_map}
use Rattle.sql_meaning.specs.Groups.{misplaced_in}
use Rattle.sql_meaning.specs.Refused.{lowest}
use Rattle.sql_validator.proofs.groups.misplaced.Given as goal

abbrev pub invariant-loop-part : goal.invariant-loop-part
invariant-loop-part l = l.found ≡ lowest (flat_map misplaced_in (take l.part-index l.parts))
