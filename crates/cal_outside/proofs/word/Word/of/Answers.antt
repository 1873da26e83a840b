use Rattle.std.proofs.Common.{◌∙◌}
use Rattle.std.specs.Prelude.{string_bytes}
use Rattle.std.proofs.lemmas.Str.{encodes-chars, IsUtf8-string_bytes}
use Rattle.cal_outside.proofs.word.Word.of.Goals as goal

pub returns-in-Ok-clause-bytes : goal.returns-in-Ok-clause-bytes
returns-in-Ok-clause-bytes c =
    encodes-chars (string_bytes c.in-Ok.text) (IsUtf8-string_bytes c.in-Ok.text) ∙ c.in-Ok.ensures.ok
