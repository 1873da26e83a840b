-- What a sink tells.
use Rattle.std.specs.Prelude.{◌≡◌, ◌<◌, ℕ, List, ◌++◌, length, take, Option, option_map}
use Rattle.cal_outside.specs.Faults.{one_more}

-- The bytes so far, where they are told, and how often a write failed.
pub record SinkState : Type 0 where
  pub bytes : Option (List ℕ)
  pub faults : ℕ

-- this text more
abbrev pub with_text : SinkState → List ℕ → SinkState
with_text sink text = record { bytes = option_map (λ bytes. bytes ++ text) sink.bytes; faults = sink.faults }

-- a failed write is counted
abbrev pub with_failure : SinkState → SinkState
with_failure sink = record { bytes = sink.bytes; faults = one_more sink.faults }

-- A part of the text from its start was added, which isn't all of it, and then a write failed.
pub record IsCut (old new : SinkState) (text : List ℕ) : Type 0 where
  pub written : ℕ
  pub part : written < length text
  pub state : new ≡ with_failure (with_text old (take written text))
