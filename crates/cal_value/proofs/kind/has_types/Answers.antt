use Rattle.std.proofs.Common.{rules, sym, ◌∙◌}
use Rattle.std.proofs.lemmas.Slice.Zip.{AllZip-long}
use Rattle.cal_value.specs.Types.{IsOfType}
use Rattle.cal_value.proofs.LoopLemmas.{AllZip-read, AllZip-step}
use Rattle.cal_value.proofs.kind.has_types.Goals as goal

pub returns-then-len : goal.returns-then-len
returns-then-len c = (λ h. absurd (cc), λ all. absurd (c.if-len.true (c.len.ensures ∙ sym (AllZip-long IsOfType _ _ all) ∙ sym c.len-2.ensures)))

pub returns-then-not-holds : goal.returns-then-not-holds
returns-then-not-holds c = (
  λ h. absurd (cc),
  λ all. c.if-not-holds.ensures.1 (AllZip-read IsOfType c.args.row.now c.as_slice-value-items.result.now c.args.types.now c.as_slice-types.result.now c.loop-at.at c.value-item.result _ c.as_slice-value-items.ensures c.as_slice-types.ensures c.value-item.is c.loop-at-test.true all),
)

pub loop-at-preserved : goal.loop-at-preserved
loop-at-preserved c = AllZip-step IsOfType c.as_slice-value-items.result.now c.as_slice-types.result.now c.loop-at.at c.value-item.result _ c.value-item.is c.loop-at-test.true (search rules) c.loop-at.invariant (c.if-not-holds.ensures.0 (search rules))
