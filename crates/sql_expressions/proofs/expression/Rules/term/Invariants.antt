use Rattle.std.proofs.Common.{◌≡◌, ◌-◌}
use Rattle.sql_expressions.specs.declared.expression.Level.TheVariants as level
use Rattle.sql_expressions.specs.Reading.{term, factor, chain_from, reads_part}
use Rattle.sql_expressions.proofs.expression.Rules.term.Given as goal

abbrev pub invariant-loop-turn : goal.invariant-loop-turn
invariant-loop-turn g l = term (reads_part l.self.depth) l.fn.cursor ≡ chain_from level.Term (factor (reads_part l.self.depth)) (l._turn-end - l._turn) l.left l.cursor
