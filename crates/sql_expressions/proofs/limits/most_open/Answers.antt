use Rattle.std.proofs.Common.{sym, ◌∙◌, arith}
use Rattle.sql_expressions.proofs.Room.{opened-few, most_open-step, most_open-end}
use Rattle.sql_expressions.proofs.limits.most_open.Goals as goal

pub loop-token-preserved : goal.loop-token-preserved
loop-token-preserved c =
    let few = opened-few c.loop-token.open c.token-item.result in
    let step = most_open-step c.args.tokens.now c.loop-token.token-index c.loop-token.most c.loop-token.open c.token-item.result c.loop-token-test.true c.token-item.is c.loop-token.invariant.reached in
    record {
      whole = rw (c.max-most.ensures, c.opened-open.ensures) (sym step ∙ c.loop-token.invariant.whole);
      few = rw c.opened-open.ensures (omega (arith, few, c.loop-token.invariant.few));
      reached = omega (arith, c.max-most.ensures);
    }

pub returns : goal.returns
returns c =
    sym (most_open-end c.args.tokens.now c.loop-token.token-index c.loop-token.most c.loop-token.open c.loop-token-test.false c.loop-token.invariant.reached) ∙ c.loop-token.invariant.whole
