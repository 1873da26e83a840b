use Rattle.std.proofs.Common.{◌≡◌, map}
use Rattle.std.specs.List.{range_with_len}
use Rattle.memo_sets.specs.Seen.{sets_of}
use Rattle.rel_meta.specs.Estimates.{table_counts}
use Rattle.plan_spaces.specs.Made.{set_rows}
use Rattle.plan_spaces.proofs.made.rows_by_set.Given as goal

abbrev pub invariant-loop-k : goal.invariant-loop-k
invariant-loop-k l = l.all ≡ map (set_rows l.info (table_counts l.snapshot) (sets_of l.memo)) (range_with_len 0 l.k)
