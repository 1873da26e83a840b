use Rattle.std.proofs.Common.{◌≡◌, ◌++◌, take}
use Rattle.sql_printer.proofs.writer.Writer.ascii.Given as goal

abbrev pub invariant-loop-b : goal.invariant-loop-b
invariant-loop-b l = record {
  text : l.self.text.items ≡ l.fn.self.text.items ++ take l.b-index l.bytes;
  edge : l.self.edge ≡ l.fn.self.edge;
}
