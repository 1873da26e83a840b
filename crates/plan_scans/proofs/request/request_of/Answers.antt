use Rattle.std.proofs.Common.{ap}
use Rattle.std.specs.Option.{option_copied}
use Rattle.plan_scans.specs.Chains.{Chain}
use Rattle.plan_scans.proofs.Requests.{request-at}
use Rattle.plan_scans.proofs.request.request_of.Goals as goal

pub returns : goal.returns
returns c =
    request-at c.args.width c.args.chain.now (option_copied c.chain.inside.predicate) (option_copied c.chain.inside.items) (record { columns = c.in_ok-columns.columns; tests = c.in_ok-tests.tests })
    (ap (λ (x : Chain). x.predicate) c.chain.view_is) (ap (λ (x : Chain). x.items) c.chain.view_is) c.in_ok-tests.ensures c.in_ok-columns.ensures
