use Rattle.cal_value.proofs.BagLemmas.{SameBag-from_IsPermutation, IsPermutation-from_SameBag}
use Rattle.cal_value.proofs.laws.same_bag_law.Goals as goal

pub returns : goal.returns
returns c = (IsPermutation-from_SameBag c.args.a.now c.args.b.now, SameBag-from_IsPermutation c.args.a.now c.args.b.now)
