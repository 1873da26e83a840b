use Rattle.std.proofs.Common.{◌≡◌, ◌∷◌, take}
use Rattle.std.specs.List.{flat_map}
use Rattle.sql_text.specs.declared.token.Symbol.TheVariants.{Comma}
use Rattle.sql_text.specs.declared.token.Token.TheVariants.{Symbol}
use Rattle.sql_printer.specs.Writer.{state}
use Rattle.sql_printer.specs.Writing.{write_all}
use Rattle.sql_printer.proofs.print.listed.Given as goal

abbrev pub invariant-loop-item : goal.invariant-loop-item
invariant-loop-item g l = state l.writer ≡ write_all (state l.initial.writer) (flat_map (λ y. Symbol Comma ∷ g.T.Print.tokens y) (take l.item-index l.rest))
