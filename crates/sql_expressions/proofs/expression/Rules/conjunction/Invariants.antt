use Rattle.std.proofs.Common.{◌≡◌, ◌-◌}
use Rattle.sql_expressions.specs.declared.expression.Level.TheVariants as level
use Rattle.sql_expressions.specs.Reading.{conjunction, negation, chain_from, reads_part}
use Rattle.sql_expressions.proofs.expression.Rules.conjunction.Given as goal

abbrev pub invariant-loop-turn : goal.invariant-loop-turn
invariant-loop-turn g l = conjunction (reads_part l.self.depth) l.fn.cursor ≡ chain_from level.And (negation (reads_part l.self.depth)) (l._turn-end - l._turn) l.left l.cursor
