use Rattle.std.proofs.Common.{◌+ℤ◌, ◌-ℤ◌, ◌*ℤ◌, int_div}
use Rattle.cal_value.proofs.IntervalLaws.{proper-at_ends, proper-negated}
use Rattle.cal_value.proofs.IntervalLemmas.{proper-meet_of}
use Rattle.cal_value.proofs.laws.proper_ends_law.Goals as goal

pub returns : goal.returns
returns c = record {
  sum = proper-at_ends ◌+ℤ◌ c.args.i c.args.j;
  difference = proper-at_ends ◌-ℤ◌ c.args.i c.args.j;
  product = proper-at_ends ◌*ℤ◌ c.args.i c.args.j;
  quotient = proper-at_ends int_div c.args.i c.args.j;
  negation = proper-negated c.args.i;
  meet = proper-meet_of c.args.i c.args.j;
}
