use Rattle.std.proofs.Common.{◌≡◌, map}
use Rattle.std.specs.List.{range_with_len}
use Rattle.rel_meta.specs.Estimates.{table_counts, rows_of_table}
use Rattle.plan_spaces.proofs.made.rows_by_table.Given as goal

abbrev pub invariant-loop-k : goal.invariant-loop-k
invariant-loop-k l = l.all ≡ map (rows_of_table (table_counts l.snapshot)) (range_with_len 0 l.k)
