use Rattle.std.proofs.Common.{◌≡◌, true, map, length}
use Rattle.cal_schema.specs.Fits.{key_of}
use Rattle.csv_tables.specs.Left.{IsPlain, left_of}
use Rattle.csv_tables.specs.Table.{has_key}
use Rattle.csv_tables.proofs.RowsLemmas.{Walked}
use Rattle.csv_tables.proofs.table.rows_in.Given as goal

abbrev pub invariant-loop : goal.invariant-loop
invariant-loop l = IsPlain l.reader × (length l.rows ≡ l.counter) × Walked l.table (left_of l.fn.reader) (left_of l.reader) l.rows
    × (has_key l.table ≡ true → l.keys.keys ≡ map (key_of l.table) l.rows)
