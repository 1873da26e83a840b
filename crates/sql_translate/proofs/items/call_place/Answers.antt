use Rattle.std.proofs.Common.{◌∙◌, sym}
use Rattle.sql_algebra.specs.Algebra.{same_call}
use Rattle.sql_translate.proofs.Places.{some-place, none-place}
use Rattle.sql_translate.proofs.items.call_place.Goals as goal

pub returns-in-Some : goal.returns-in-Some
returns-in-Some c = some-place (λ other. same_call other c.args.call.now) c.args.calls.now c.in-Some.at (sym c.first_call.ensures ∙ c.in-Some.is)

pub returns-in-None : goal.returns-in-None
returns-in-None c = none-place (λ other. same_call other c.args.call.now) c.args.calls.now (sym c.first_call.ensures ∙ c.in-None.is)
