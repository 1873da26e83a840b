use Rattle.std.proofs.Common.{take}
use Rattle.std.specs.List.{AllZip}
use Rattle.cal_value.specs.Types.{IsOfType}
use Rattle.cal_value.proofs.kind.has_types.Given as goal

abbrev pub invariant-loop-at : goal.invariant-loop-at
invariant-loop-at l = AllZip IsOfType (take l.at l.value-items) (take l.at l.types)
