use Rattle.cal_top.proofs.OneEnd.{one_end}
use Rattle.cal_top.proofs.laws.one_end_is_right.Goals as goal

pub returns : goal.returns
returns c = λ rules old file words a b told p q. one_end rules (c.one_reply_is_right.ensures rules) old file words a b told p q
