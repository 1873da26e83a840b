use Rattle.std.proofs.Common.{◌≡◌, take}
use Rattle.std.specs.List.{flat_map}
use Rattle.sql_meaning.specs.Kinds.{part_clashes}
use Rattle.sql_meaning.specs.Refused.{lowest}
use Rattle.sql_types.proofs.kinds.type_clash.Given as goal

abbrev pub invariant-loop-part : goal.invariant-loop-part
invariant-loop-part l = l.found ≡ lowest (flat_map (part_clashes l.scope) (take l.part-index l.parts))
