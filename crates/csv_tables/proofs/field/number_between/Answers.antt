use Rattle.csv_tables.proofs.NumberLemmas.{number-answer, low-answer, high-answer, no-answer}
use Rattle.csv_tables.proofs.field.number_between.Goals as goal
use Rattle.csv_tables.proofs.field.number_between.Goals.{in_default-via-in-Ok+then-lo-number+else-number-hi, in_default-via-in-Ok+else-lo-number, in_default-via-in_default}

pub returns-in-Ok : goal.returns-in-Ok
returns-in-Ok c = number-answer c.args.text.now c.args.lo c.args.hi c.in-Ok.number c.in-Ok.ensures.value.0 c.ranges.lo c.ranges.hi c.if-lo-number.true c.if-number-hi.true

pub returns-in_default : goal.returns-in_default
returns-in_default c = elim c.in_default.branch [
  | in_default-via-in-Ok+then-lo-number+else-number-hi w ↦ high-answer c.args.text.now c.args.lo c.args.hi w.in-Ok.number w.in-Ok.ensures.value.0 c.ranges.hi w.if-number-hi.false
  | in_default-via-in-Ok+else-lo-number w ↦ low-answer c.args.text.now c.args.lo c.args.hi w.in-Ok.number w.in-Ok.ensures.value.0 c.ranges.lo w.if-lo-number.false
  | in_default-via-in_default w ↦ no-answer c.args.text.now c.args.lo c.args.hi c.ranges.lo c.ranges.hi w.in_default.ensures.value.0
]
