use Rattle.std.proofs.Common.{◌≡◌, ◌-◌}
use Rattle.sql_expressions.specs.declared.expression.Level.TheVariants as level
use Rattle.sql_expressions.specs.Reading.{disjunction, conjunction, chain_from, reads_part}
use Rattle.sql_expressions.proofs.expression.Rules.disjunction.Given as goal

abbrev pub invariant-loop-turn : goal.invariant-loop-turn
invariant-loop-turn g l = disjunction (reads_part l.self.depth) l.fn.cursor ≡ chain_from level.Or (conjunction (reads_part l.self.depth)) (l._turn-end - l._turn) l.left l.cursor
