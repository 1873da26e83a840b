use Rattle.std.proofs.Common.{rules}
use Rattle.std.proofs.lemmas.Fn.{always_returns_same}
use Rattle.std.proofs.lemmas.List.Sorted.{ranks_by}
use Rattle.std.specs.Ordering.{is_lt}
use Rattle.cal_value.specs.Order.{row_cmp}
use Rattle.cal_value.proofs.OrderLemmas.{row_cmp_total}
use Rattle.exec_ops.proofs.sort.sort_rows.Goals as goal

pub returns-clause-in_order : goal.returns-clause-in_order
returns-clause-in_order c =
    rw c.from_vec.ensures (c.in_ok-sort_by.ensures.sorted (λ a b. is_lt (row_cmp c.args.keys.now a b)) (ranks_by (row_cmp_total c.args.keys.now) (λ r. r)) (always_returns_same _ _ _ (λ a r g h. search rules)))

pub returns-clause-stable : goal.returns-clause-stable
returns-clause-stable c =
    rw (c.from_vec.ensures, ← c.into_vec-rows.ensures) (c.in_ok-sort_by.ensures.stable (λ a b. is_lt (row_cmp c.args.keys.now a b)) (ranks_by (row_cmp_total c.args.keys.now) (λ r. r)) (always_returns_same _ _ _ (λ a r g h. search rules)))
