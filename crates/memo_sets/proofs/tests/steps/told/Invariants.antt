use Rattle.memo_sets.specs.Seen.{sets_of, HasRoom}
use Rattle.memo_sets.proofs.tests.steps.told.Given as goal

abbrev pub invariant-loop-text : goal.invariant-loop-text
invariant-loop-text l = HasRoom (sets_of l.memo)
