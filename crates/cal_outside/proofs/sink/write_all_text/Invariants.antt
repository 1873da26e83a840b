use Rattle.std.proofs.Common.{◌≡◌, length, ◌-◌, ◌≤◌, take}
use Rattle.cal_outside.specs.Sink.{with_text}
use Rattle.cal_outside.proofs.sink.write_all_text.Given as goal

abbrev pub invariant-loop-done : goal.invariant-loop-done
invariant-loop-done g l = record {
  within : l.done ≤ length l.text;
  later : (g.K.Sink.state l.initial.out).faults ≤ (g.K.Sink.state l.out).faults;
  adds : g.K.Sink.state l.out ≡ with_text (g.K.Sink.state l.initial.out) (take l.done l.text);
}

abbrev pub decreases-loop-done : goal.decreases-loop-done
decreases-loop-done g l = length l.text - l.done
