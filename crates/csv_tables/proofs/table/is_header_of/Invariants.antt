use Rattle.std.proofs.Common.{◌≡◌, drop}
use Rattle.std.specs.Cmp.Lexicographic.{pointwise}
use Rattle.csv_tables.specs.Table.{is_same_column}
use Rattle.csv_tables.proofs.table.is_header_of.Given as goal

abbrev pub invariant-loop-at : goal.invariant-loop-at
invariant-loop-at l = pointwise is_same_column (drop l.at l.columns) (drop l.at l.named) ≡ pointwise is_same_column l.columns l.named
