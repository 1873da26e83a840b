use Rattle.std.proofs.Common.{◌∙◌, sym}
use Rattle.cal_expr.specs.Equal.{expr_eq}
use Rattle.sql_translate.proofs.Places.{some-place, none-place}
use Rattle.sql_translate.proofs.aggregates.place_in.Goals as goal

pub returns-in-Some : goal.returns-in-Some
returns-in-Some c = some-place (λ other. expr_eq other c.args.expr.now) c.args.exprs.now c.in-Some.at (sym c.first_place.ensures ∙ c.in-Some.is)

pub returns-in-None : goal.returns-in-None
returns-in-None c = none-place (λ other. expr_eq other c.args.expr.now) c.args.exprs.now (sym c.first_place.ensures ∙ c.in-None.is)
