use Rattle.std.proofs.Common.{rules, ◌≡◌, subst}
use Rattle.cal_value.specs.declared.interval.Interval.TheVariants.{Never}
use Rattle.cal_value.specs.Interval.{IsMeet, meet_of}
use Rattle.cal_value.proofs.IntervalLemmas.{meet_of-IsMeet}
use Rattle.cal_value.proofs.interval.Interval.meet.Goals as goal

pub returns-then-hi-lo-clause-greatest : goal.returns-then-hi-lo-clause-greatest
returns-then-hi-lo-clause-greatest c =
    let is : meet_of c.args.self c.args.other ≡ Never = search rules in
    subst (IsMeet c.args.self c.args.other) is (meet_of-IsMeet c.args.self c.args.other)

pub returns-else-hi-lo-clause-greatest : goal.returns-else-hi-lo-clause-greatest
returns-else-hi-lo-clause-greatest c = subst (IsMeet c.args.self c.args.other) (search rules) (meet_of-IsMeet c.args.self c.args.other)
