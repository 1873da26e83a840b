use Rattle.std.proofs.Common.{◌≡◌}
use Rattle.std.proofs.lemmas.Result.{IfOk-weaker}
use Rattle.cal_value.specs.declared.value.Value.{Value}
use Rattle.cal_expr.specs.Meaning.{meaning_of}
use Rattle.cal_expr.specs.WellFormed.{IsWellTyped}
use Rattle.cal_expr.proofs.Typed.{well_typed}
use Rattle.cal_expr.proofs.evaluate.eval.Goals as goal

pub returns-clause-typed : goal.returns-clause-typed
returns-clause-typed c =
    let typed : (v : Value) → v ≡ meaning_of c.args.expr.now c.args.row.now → IsWellTyped c.args.expr.now c.args.row.now v = well_typed c.args.expr.now c.args.row.now in
    IfOk-weaker c.value_in.result _ _ typed c.value_in.ensures
