use Rattle.std.proofs.Common.{rules, arith}
use Rattle.std.proofs.lemmas.Grind.{common_steps}
use Rattle.sql_parser.specs.ReadingList.{separated_from}
use Rattle.sql_expressions.proofs.Turns.{one_more}
use Rattle.sql_parser.proofs.list.separated.Goals as goal

pub loop-turn-preserved : goal.loop-turn-preserved
unfolding separated_from
loop-turn-preserved g c =
    let e = one_more (λ n. separated_from g.P.Parse.reads n c.loop-turn.found c.loop-turn.cursor) _ c.loop-turn._turn c.loop-turn-test.true c.loop-turn.invariant in
    first_of (search rules, grind (arith, common_steps))
