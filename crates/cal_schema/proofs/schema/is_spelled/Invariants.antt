use Rattle.std.proofs.Common.{◌≡◌, ◌≤◌, ◌==◌, length, drop}
use Rattle.std.specs.Str.{chars}
use Rattle.std.specs.Cmp.Lexicographic.{pointwise}
use Rattle.cal_schema.proofs.schema.is_spelled.Given as goal

abbrev pub invariant-loop-c : goal.invariant-loop-c
invariant-loop-c l = (l.at ≡ length l.yielded) × (l.at ≤ length l.text) × (pointwise ◌==◌ (drop (length l.yielded) l.text) (drop (length l.yielded) (chars l.name)) ≡ pointwise ◌==◌ l.text (chars l.name))
