-- What a test has of a checked statement before it asks for its tree.
use Rattle.std.specs.Prelude.{⊤}
use Rattle.cal_schema.specs.declared.schema.Schema.{Schema}
use Rattle.sql_algebra.specs.Formed.{IsFormed}
use Rattle.sql_validator.specs.declared.checked.Checked.{Checked}
use Rattle.sql_validator.specs.declared.checked.Checked.TheVariants.{Select}
use Rattle.sql_translate.specs.Translated.{IsAccepted}

abbrev pub IsReady : Schema → Checked → Type 0
IsReady schema (Select made) = IsFormed made.select × IsAccepted schema made
IsReady schema c = ⊤
