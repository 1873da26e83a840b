use Rattle.std.proofs.Common.{◌≡◌, ◌++◌, take, encode_utf8_all}
use Rattle.std.specs.Prelude.{string_bytes}
use Rattle.cal_value.proofs.text.push_characters.Given as goal

abbrev pub invariant-loop-character : goal.invariant-loop-character
invariant-loop-character l = string_bytes l.out ≡ string_bytes l.initial.out ++ encode_utf8_all (take l.character-index l.text)
