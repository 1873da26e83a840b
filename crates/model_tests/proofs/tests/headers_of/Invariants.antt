use Rattle.model_json.specs.ModelOf.{AreShort}
use Rattle.model_tests.proofs.tests.headers_of.Given as goal

abbrev pub invariant-loop-table : goal.invariant-loop-table
invariant-loop-table l = AreShort l.headers
