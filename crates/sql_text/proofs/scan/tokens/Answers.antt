use Rattle.std.proofs.Common.{◌∙◌}
use Rattle.std.specs.Str.{chars}
use Rattle.sql_text.proofs.Reading.{only_answer, fit_answer, none_answer}
use Rattle.sql_text.proofs.scan.tokens.Goals as goal

pub returns-clause-only : goal.returns-clause-only
returns-clause-only c = only_answer c.scan.result c.as_slice.result.now (chars c.args.text.now) (c.as_slice.ensures.value ∙ c.in_ok-all.ensures) c.scan.ensures.tokens

pub returns-clause-none : goal.returns-clause-none
returns-clause-none c = none_answer c.scan.result c.as_slice.result.now (chars c.args.text.now) (c.as_slice.ensures.value ∙ c.in_ok-all.ensures) c.scan.ensures.fault

pub returns-clause-each : goal.returns-clause-each
returns-clause-each c = fit_answer c.scan.result c.as_slice.result.now c.scan.ensures.tokens
