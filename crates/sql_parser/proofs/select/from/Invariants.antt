use Rattle.std.proofs.Common.{◌≡◌, ◌-◌}
use Rattle.sql_expressions.specs.declared.limits.TheConstants.{NESTING_LIMIT}
use Rattle.sql_parser.specs.ReadingSelect.{from, joins_from}
use Rattle.sql_parser.proofs.select.from.Given as goal

abbrev pub invariant-loop-turn : goal.invariant-loop-turn
invariant-loop-turn l = from NESTING_LIMIT l.fn.cursor ≡ joins_from NESTING_LIMIT (l._turn-end - l._turn) l.found l.cursor
