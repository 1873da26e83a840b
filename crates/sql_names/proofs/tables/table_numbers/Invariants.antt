use Rattle.std.proofs.Common.{◌≡◌, take, None}
use Rattle.sql_names.specs.Tables.{first_unknown, AreNumbered}
use Rattle.sql_names.proofs.tables.table_numbers.Given as goal

abbrev pub invariant-loop-entry : goal.invariant-loop-entry
invariant-loop-entry l = record {
  numbers : AreNumbered l.schema (take l.entry-index l.from) l.numbers;
  known : first_unknown l.schema (take l.entry-index l.from) ≡ None;
}
