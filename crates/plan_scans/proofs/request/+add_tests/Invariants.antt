use Rattle.plan_scans.proofs.Requests.{size_of}
use Rattle.plan_scans.proofs.request.+add_tests.Given as goal

abbrev pub decreases-add_tests : goal.decreases-add_tests
decreases-add_tests l = size_of l.predicate.now
