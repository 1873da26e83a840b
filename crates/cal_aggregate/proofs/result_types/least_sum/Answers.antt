use Rattle.std.proofs.Common.{rules}
use Rattle.cal_aggregate.proofs.AggregateLemmas.{least_at}
use Rattle.cal_aggregate.proofs.result_types.least_sum.Goals as goal

pub returns : goal.returns
returns c = least_at c.args.lo c.args.rows c.cut_product-product.result c.cut_at_limit.result c.min.result c.ranges.lo c.ranges.rows (search rules) (search rules) (search rules)
    c.cut_product-product.ensures c.cut_at_limit.ensures c.min.ensures.value
