use Rattle.std.proofs.Common.{subst}
use Rattle.cal_expr.specs.WellFormed.{IsWellFormed}
use Rattle.cal_expr.proofs.Typed.{can_apply, can_negate}
use Rattle.cal_expr.proofs.evaluate.+value_in.Goals as goal

pub negate-requires : goal.negate-requires
negate-requires t c =
    rw (c.in_ok-a-in-Negate.ensures, c.get.ensures)
    (can_negate c.in-Negate.e c.args.row.now (subst (λ e. IsWellFormed e c.args.row.now) c.in-Negate.is c.requires))

pub apply-requires : goal.apply-requires
apply-requires t c =
    rw (c.in_ok-a-in-Binary.ensures, c.in_ok-b-in-Binary.ensures, c.get-in-Binary.ensures, c.get-in-Binary-2.ensures)
    (can_apply c.in-Binary.op c.in-Binary.left c.in-Binary.right c.args.row.now (subst (λ e. IsWellFormed e c.args.row.now) c.in-Binary.is c.requires))
