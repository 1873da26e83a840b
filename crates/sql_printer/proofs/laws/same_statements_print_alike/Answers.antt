use Rattle.std.proofs.Common.{ap}
use Rattle.sql_printer.specs.Writing.{text_of}
use Rattle.sql_printer.proofs.Alike.{printed_alike}
use Rattle.sql_printer.proofs.laws.same_statements_print_alike.Goals as goal

pub returns : goal.returns
returns c a b h = ap text_of (printed_alike a b h)
