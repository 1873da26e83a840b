use Rattle.std.proofs.Common.{sym, ◌∙◌}
use Rattle.cal_value.proofs.BagLemmas.{SameBag-from_tests, tests-from_SameBag}
use Rattle.cal_value.proofs.bag.same_bag.Goals as goal

pub returns-then-counts_agree : goal.returns-then-counts_agree
returns-then-counts_agree c =
    let a = c.args.a.now in
    let b = c.args.b.now in (
      λ t. SameBag-from_tests a b (sym c.counts_agree.ensures ∙ c.if-counts_agree.true) (sym c.counts_agree-then-counts_agree.ensures ∙ t),
      λ h. c.counts_agree-then-counts_agree.ensures ∙ tests-from_SameBag a b b h,
    )

pub returns-else-counts_agree : goal.returns-else-counts_agree
returns-else-counts_agree c =
    let a = c.args.a.now in
    let b = c.args.b.now in
    (λ t. absurd (cc), λ h. c.counts_agree.ensures ∙ tests-from_SameBag a b a h)
