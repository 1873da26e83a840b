use Rattle.std.proofs.Common.{◌≡◌, ◌++◌, ◌+◌, drop}
use Rattle.csv.specs.Records.{fields_of}
use Rattle.csv_tables.specs.Table.{field_faults, values_of}
use Rattle.csv_tables.proofs.table.row_values.Given as goal

abbrev pub invariant-loop-at : goal.invariant-loop-at
invariant-loop-at l =
    (field_faults l.number (l.at + 1) (drop l.at l.columns) (drop l.at (fields_of l.raw)) ≡ field_faults l.number 1 l.columns (fields_of l.raw))
    × (l.row ++ values_of (drop l.at l.columns) (drop l.at (fields_of l.raw)) ≡ values_of l.columns (fields_of l.raw))
