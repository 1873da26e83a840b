use Rattle.std.proofs.Common.{rules}
use Rattle.cal_value.specs.Types.{IsOfType}
use Rattle.cal_value.proofs.LoopLemmas.{All-step, All-whole}
use Rattle.cal_value.proofs.kind.SqlType.holds_all.Goals as goal

pub loop-value-preserved : goal.loop-value-preserved
loop-value-preserved c = All-step (λ v. IsOfType v c.args.self) c.args.values.now c.as_slice-value-items.result.now c.loop-value.value-index c.value-item.result c.as_slice-value-items.ensures c.value-item.is c.loop-value-test.true c.loop-value.invariant
    (c.if-not-holds.ensures.0 (search rules))

pub returns : goal.returns
returns c = (λ t. All-whole (λ v. IsOfType v c.args.self) c.args.values.now c.as_slice-value-items.result.now c.loop-value.value-index c.as_slice-value-items.ensures c.loop-value-test.false c.loop-value.invariant, λ h. search rules)
