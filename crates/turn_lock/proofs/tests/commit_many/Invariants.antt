use Rattle.std.proofs.Common.{◌≡◌}
use Rattle.turn_lock.proofs.tests.commit_many.Given as goal

abbrev pub invariant-loop-number : goal.invariant-loop-number
invariant-loop-number g l = record { same_lock : l.pass.lock ≡ l.fn.pass.lock; same_actors : l.pass.actors ≡ l.fn.pass.actors }
