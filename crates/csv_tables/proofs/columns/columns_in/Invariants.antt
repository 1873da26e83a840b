use Rattle.std.proofs.Common.{◌≡◌, ◌≤◌, ◌++◌, [], length, map, drop}
use Rattle.csv.specs.Records.{fields_of}
use Rattle.cal_value.specs.declared.limits.TheConstants.{COLUMN_LIMIT}
use Rattle.csv_tables.specs.Header.{header_faults, column_in}
use Rattle.csv_tables.proofs.columns.columns_in.Given as goal

abbrev pub invariant-loop-at : goal.invariant-loop-at
invariant-loop-at l = (length l.columns ≡ l.at) × (l.at ≤ COLUMN_LIMIT)
    × (header_faults l.columns (drop l.at (fields_of l.raw)) ≡ header_faults [] (fields_of l.raw))
    × (l.columns ++ map column_in (drop l.at (fields_of l.raw)) ≡ map column_in (fields_of l.raw))
