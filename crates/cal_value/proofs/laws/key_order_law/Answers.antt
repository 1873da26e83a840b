use Rattle.cal_value.proofs.OrderLemmas.{key_cmp_total}
use Rattle.cal_value.proofs.laws.key_order_law.Goals as goal

pub returns : goal.returns
returns c = key_cmp_total c.args.key.now
