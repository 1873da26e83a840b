use Rattle.std.proofs.Common.{◌≡◌, ◌++◌, drop}
use Rattle.cal_schema.specs.RelType.{met_columns}
use Rattle.cal_schema.proofs.rel_type.met_columns.Given as goal

abbrev pub invariant-loop-at : goal.invariant-loop-at
invariant-loop-at l = l.met ++ met_columns (drop l.at l.columns) (drop l.at l.others) ≡ met_columns l.columns l.others
