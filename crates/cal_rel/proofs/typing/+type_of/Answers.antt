use Rattle.std.proofs.Common.{sym, ◌∙◌}
use mathlib.Core.Path.{ap₂}
use Rattle.cal_rel.specs.declared.rel.Rel.{Rel}
use Rattle.cal_rel.specs.declared.rel.Rel.TheVariants as r
use Rattle.cal_rel.proofs.TreeSteps.{join-typed}
use Rattle.cal_rel.proofs.typing.+type_of.Goals as goal

pub returns-in-Some-4 : goal.returns-in-Some-4
returns-in-Some-4 t c =
    join-typed c.args.info.now c.args.rel.now c.get-left.result.now c.get-right.result.now c.in-Join.kind c.in-Join.on c.in-Some-3.s c.in-Some-4.t c.binary_type.result
    (c.in-Join.is ∙ ap₂ (λ (left right : Rel). r.Join c.in-Join.kind left right c.in-Join.on) (sym c.get-left.ensures) (sym c.get-right.ensures))
    (sym c.in-Some-3.is ∙ c.in_ok-s-in-Join.ensures) (sym c.in-Some-4.is ∙ c.in_ok-t-in-Join.ensures) c.binary_type.ensures
