use Rattle.std.proofs.Common.{rules}
use Rattle.cal_aggregate.proofs.AggregateLemmas.{greatest_at}
use Rattle.cal_aggregate.proofs.result_types.greatest_sum.Goals as goal

pub returns : goal.returns
returns c = greatest_at c.args.hi c.args.rows c.cut_product-product.result c.cut_at_limit.result c.max.result c.ranges.hi c.ranges.rows (search rules) (search rules) (search rules)
    c.cut_product-product.ensures c.cut_at_limit.ensures c.max.ensures.value
