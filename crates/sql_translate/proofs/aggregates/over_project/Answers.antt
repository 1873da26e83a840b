use Rattle.std.proofs.Common.{◌∙◌, map}
use mathlib.Core.Path.{ap₂}
use Rattle.std.proofs.lemmas.Result.{IfOk-weaker}
use Rattle.cal_expr.specs.declared.expr.Expr.TheVariants.{Column}
use Rattle.cal_expr.specs.Equal.{expr_eq}
use Rattle.sql_algebra.specs.Algebra.{call_over, place_among}
use Rattle.sql_translate.proofs.Steps.{over-project}
use Rattle.sql_translate.proofs.aggregates.over_project.Goals as goal

pub returns : goal.returns
returns c =
    IfOk-weaker c.aggregate.result _ _
    (λ rel e. over-project c.args.layout.now c.args.tree c.in_ok-projected.projected rel c.in_ok-exprs.exprs c.in_ok-groups.groups c.in_ok-calls.calls c.in_ok-exprs.ensures c.in_ok-projected.ensures
    (c.in_ok-groups.ensures ∙ ap₂ (λ es gs. map (λ column. place_among expr_eq (Column column) es) gs) c.as_slice-2.ensures c.as_slice.ensures)
    (c.in_ok-calls.ensures ∙ ap₂ (λ es cs. map (call_over (λ e. place_among expr_eq e es)) cs) c.as_slice-4.ensures c.as_slice-3.ensures)
    e)
    c.aggregate.ensures
