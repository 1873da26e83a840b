use Rattle.std.proofs.Common.{◌≡◌, take}
use Rattle.std.specs.List.{flat_map}
use Rattle.sql_printer.specs.Printing.{entry_tokens}
use Rattle.sql_printer.specs.Writer.{state}
use Rattle.sql_printer.specs.Writing.{write_all}
use Rattle.sql_printer.proofs.print_select.entries.Given as goal

abbrev pub invariant-loop-entry : goal.invariant-loop-entry
invariant-loop-entry l = state l.writer ≡ write_all (state l.initial.writer) (flat_map entry_tokens (take l.entry-index l.from))
