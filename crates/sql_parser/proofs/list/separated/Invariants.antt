use Rattle.std.proofs.Common.{◌≡◌, ◌-◌}
use Rattle.sql_parser.specs.ReadingList.{separated, separated_from}
use Rattle.sql_parser.proofs.list.separated.Given as goal

abbrev pub invariant-loop-turn : goal.invariant-loop-turn
invariant-loop-turn g l = separated g.P.Parse.reads l.fn.cursor ≡ separated_from g.P.Parse.reads (l._turn-end - l._turn) l.found l.cursor
