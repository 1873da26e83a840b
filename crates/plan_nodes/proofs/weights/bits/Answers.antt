use Rattle.std.proofs.Common.{arith}
use Rattle.plan_nodes.specs.Weights.{bits}
use Rattle.plan_nodes.proofs.Digits.{bits-more, bits-same}
use Rattle.plan_nodes.proofs.weights.bits.Goals as goal
use Rattle.plan_nodes.proofs.weights.bits.Goals.{then-left-gt0, else-left-gt0}

pub loop-preserved : goal.loop-preserved
loop-preserved c =
    let all = c.loop.invariant.all in
    let few = c.loop.invariant.few in
    elim c.if-left-gt0.branch [
      | then-left-gt0 w ↦ rw (w.left-is, w.count-is) (record {
        all = bits-more (bits c.args.n) c.loop.count c.loop.counter c.loop.left c.loop-test.true w.if-left-gt0.true all;
        few = omega arith;
      })
      | else-left-gt0 w ↦ rw (w.left-is, w.count-is) (record {
        all = bits-same (bits c.args.n) c.loop.count c.loop.counter c.loop.left w.if-left-gt0.false all;
        few = omega arith;
      })
    ]
