use Rattle.std.proofs.Common.{◌≡◌, ◌++◌, drop}
use Rattle.sql_text.specs.Tokens.{doubled}
use Rattle.sql_printer.proofs.writer.Writer.quoted.Given as goal

-- what was written and what is left are the whole
abbrev pub invariant-loop-c : goal.invariant-loop-c
invariant-loop-c l = record {
  text : l.self.text.items ++ doubled l.quote (drop l.c-index l.inside) ≡ l.initial.self.text.items ++ doubled l.quote l.inside;
  edge : l.self.edge ≡ l.fn.self.edge;
}
