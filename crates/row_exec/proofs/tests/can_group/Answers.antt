use Rattle.std.proofs.Common.{arith}
use Rattle.row_exec.proofs.tests.can_group.Goals as goal

pub returns : goal.returns
returns c = λ typed. record {
  row_type = c.args.t.now;
  true_of = record { typed = c.have_types.ensures.0 c.if-not-have_types.false; few = λ l. omega arith };
  typed = c.have_call_types.ensures.0 typed;
}
