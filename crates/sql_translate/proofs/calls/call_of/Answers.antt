use Rattle.sql_translate.proofs.Steps.{call-some}
use Rattle.sql_translate.proofs.calls.call_of.Goals as goal

pub returns-in_ok-expression-in-Some : goal.returns-in_ok-expression-in-Some
returns-in_ok-expression-in-Some c =
    call-some c.args.scope.now c.args.agg c.args.argument.now c.get.result.now c.in_ok-expression-in-Some.field-0 (cc) c.in_ok-expression-in-Some.ensures
