use Rattle.std.proofs.Common.{ap}
use Rattle.std.specs.Option.{option_copied}
use Rattle.plan_scans.proofs.Requests.{tests-none}
use Rattle.plan_scans.proofs.request.tests_of.Goals as goal

pub returns-in-None : goal.returns-in-None
returns-in-None c = tests-none (option_copied c.args.predicate) c.new-tests.result (ap option_copied c.in-None.is) c.new-tests.ensures
