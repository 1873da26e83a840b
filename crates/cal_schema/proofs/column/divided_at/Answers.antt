use Rattle.std.proofs.Common.{◌∙◌, sym, arith}
use Rattle.cal_schema.proofs.NameLemmas.{divided-is}
use Rattle.cal_schema.proofs.column.divided_at.Goals as goal

pub returns-else-text-at-ne58 : goal.returns-else-text-at-ne58
returns-else-text-at-ne58 c = divided-is c.args.text.now c.loop-at.at c.index-text-at.result c.loop-at.invariant.0 (λ k. c.loop-at.invariant.1 k c.index-text-at.result) (λ _. sym c.index-text-at.is ∙ c.if-text-at-ne58.false)

pub returns-after-loop-at : goal.returns-after-loop-at
returns-after-loop-at c = divided-is c.args.text.now c.loop-at.at 0 c.loop-at.invariant.0 (λ k. c.loop-at.invariant.1 k 0) (λ h. absurd (omega arith))
