-- What the code's types use: an interval that is cut is in range where the interval is, and is then the interval.
use Rattle.cal_value.proofs.IntervalLemmas.{number_type-cut_ends}

pub ruleset typing_rules = (number_type-cut_ends)
