use Rattle.std.proofs.Common.{◌≡◌, take, Some}
use Rattle.cal_rel.specs.Typing.{types_by, call_type}
use Rattle.cal_rel.proofs.typing.call_types.Given as goal

abbrev pub invariant-loop-call : goal.invariant-loop-call
invariant-loop-call l = types_by (call_type l.columns l.rows) (take l.call-index l.calls) ≡ Some l.types
