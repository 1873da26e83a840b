use Rattle.std.proofs.Common.{take, All}
use Rattle.cal_value.specs.Types.{IsOfType}
use Rattle.cal_value.proofs.kind.SqlType.holds_all.Given as goal

abbrev pub invariant-loop-value : goal.invariant-loop-value
invariant-loop-value l = All (λ v. IsOfType v l.self) (take l.value-index l.values)
