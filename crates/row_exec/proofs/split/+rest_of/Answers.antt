use Rattle.std.proofs.Common.{◌≡◌, Option, ◌∙◌, ap, subst}
use Rattle.std.proofs.lemmas.Result.{IfOk-weaker}
use Rattle.cal_expr.specs.declared.expr.Expr.{Expr}
use Rattle.cal_expr.specs.declared.expr.Expr.TheVariants.{Binary}
use Rattle.row_exec.specs.Split.{conjunction, IsRest}
use Rattle.row_exec.proofs.SplitLemmas.{rest-and}
use Rattle.row_exec.proofs.split.+rest_of.Goals as goal

pub returns-in_ok-second-in-And : goal.returns-in_ok-second-in-And
returns-in_ok-second-in-And t c =
    let made : (both : Option Expr) → both ≡ conjunction c.in_ok-first-in-And.first c.in_ok-second-in-And.second → IsRest c.args.width c.args.on.now both =
    λ both e. rest-and c.args.width c.args.on.now c.in-Binary.left c.in-Binary.right c.in_ok-first-in-And.first c.in_ok-second-in-And.second both
    (c.in-Binary.is ∙ ap (λ o. Binary o c.in-Binary.left c.in-Binary.right) c.in-And.is)
    (subst (λ (e : Expr). IsRest c.args.width e c.in_ok-first-in-And.first) c.get.ensures c.in_ok-first-in-And.ensures)
    (subst (λ (e : Expr). IsRest c.args.width e c.in_ok-second-in-And.second) c.get-in-And.ensures c.in_ok-second-in-And.ensures) e in
    IfOk-weaker c.conjunction.result (λ both. both ≡ conjunction c.in_ok-first-in-And.first c.in_ok-second-in-And.second) (IsRest c.args.width c.args.on.now) made c.conjunction.ensures

pub rest_of_equation-requires : goal.rest_of_equation-requires
rest_of_equation-requires t c = record {
  left = c.in-Binary.left;
  right = c.in-Binary.right;
  is = c.in-Binary.is ∙ ap (λ o. Binary o c.in-Binary.left c.in-Binary.right) c.in-Equal.is;
}
