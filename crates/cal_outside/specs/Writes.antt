-- What one write answers, and what a sink tells after it.
use Rattle.std.specs.Prelude.{ℕ, ◌≤◌, List, length, take, ⊤}
use Rattle.cal_outside.specs.Sink.{SinkState, with_text, with_failure}
use Rattle.cal_outside.specs.declared.sink.Took.{Took}
use Rattle.cal_outside.specs.declared.sink.Took.TheVariants.{Bytes, Failed}

-- at least one byte, and no more than there are
abbrev pub TookPart : List ℕ → Took → Type 0
TookPart piece (Bytes n) = (1 ≤ n) × (n ≤ length piece)
TookPart piece Failed = ⊤

-- what was taken is added, and a failed write counted
abbrev pub after_write : SinkState → List ℕ → Took → SinkState
after_write sink piece (Bytes n) = with_text sink (take n piece)
after_write sink piece Failed = with_failure sink
