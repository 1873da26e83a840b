use Rattle.std.proofs.Common.{◌≡◌, take, slice_get, Some}
use Rattle.cal_rel.specs.Typing.{types_by}
use Rattle.cal_rel.proofs.typing.key_types.Given as goal

abbrev pub invariant-loop-group : goal.invariant-loop-group
invariant-loop-group l = types_by (slice_get l.columns) (take l.group-index l.groups) ≡ Some l.types
