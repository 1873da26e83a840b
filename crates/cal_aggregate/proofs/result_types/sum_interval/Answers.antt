use Rattle.std.proofs.Common.{rules}
use Rattle.cal_aggregate.proofs.AggregateLemmas.{sums_at}
use Rattle.cal_aggregate.proofs.result_types.sum_interval.Goals as goal

pub returns-in-Range : goal.returns-in-Range
returns-in-Range c = rw c.in-Range.is (sums_at c.args.bound c.in-Range.lo c.in-Range.hi c.cut_bound.result c.max-rows.result c.least_sum.result c.greatest_sum.result
    (search rules) (search rules) (search rules) (search rules) (search rules) (search rules)
    c.cut_bound.ensures c.max-rows.ensures.value c.least_sum.ensures c.greatest_sum.ensures)
