use Rattle.std.proofs.Common.{sym, ◌∙◌, ap}
use Rattle.row_exec.specs.Passes.{Pass}
use Rattle.row_exec.proofs.SmallPlans.{can-go-over}
use Rattle.row_exec.proofs.tests.passed.Goals as goal

pub pass_rows-requires : goal.pass_rows-requires
pass_rows-requires g c =
    can-go-over c.in_ok-types.types c.args.pass.now c.args.given c.in_ok-snapshot.snapshot c.in_ok-snapshot.ensures (ap (λ (p : Pass). p.table) (sym c.pass.view_is) ∙ c.if-pass-ne0.false)
    (c.has_values.ensures c.if-not-has_values.false) (c.have_types.ensures.0 c.if-not-have_types.false)
