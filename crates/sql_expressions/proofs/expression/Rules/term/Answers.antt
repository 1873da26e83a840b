use Rattle.std.proofs.Common.{rules, arith}
use Rattle.std.proofs.lemmas.Grind.{common_steps}
use Rattle.sql_expressions.specs.declared.expression.Level.TheVariants as level
use Rattle.sql_expressions.specs.Reading.{factor, chain_from, reads_part}
use Rattle.sql_expressions.proofs.Turns.{one_more}
use Rattle.sql_expressions.proofs.expression.Rules.term.Goals as goal

pub loop-turn-preserved : goal.loop-turn-preserved
unfolding chain_from
loop-turn-preserved g c =
    let e = one_more (λ n. chain_from level.Term (factor (reads_part c.args.self.now.depth)) n c.loop-turn.left c.loop-turn.cursor) _ c.loop-turn._turn c.loop-turn-test.true c.loop-turn.invariant in
    first_of (search rules, grind (arith, common_steps))
