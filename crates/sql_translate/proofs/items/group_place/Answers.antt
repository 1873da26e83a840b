use Rattle.std.proofs.Common.{◌∙◌, sym, ◌==◌}
use Rattle.sql_translate.proofs.Places.{some-place, none-place}
use Rattle.sql_translate.proofs.items.group_place.Goals as goal

pub returns-in-Some : goal.returns-in-Some
returns-in-Some c = some-place (λ group. group == c.args.column) c.args.groups.now c.in-Some.at (sym c.first_group.ensures ∙ c.in-Some.is)

pub returns-in-None : goal.returns-in-None
returns-in-None c = none-place (λ group. group == c.args.column) c.args.groups.now (sym c.first_group.ensures ∙ c.in-None.is)
