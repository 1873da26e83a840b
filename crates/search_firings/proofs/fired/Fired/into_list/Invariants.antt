use Rattle.std.proofs.Common.{◌≡◌, ◌++◌}
use Rattle.search_firings.proofs.fired.Fired.into_list.Given as goal

abbrev pub invariant-loop-firing : goal.invariant-loop-firing
invariant-loop-firing l = l.all ++ l.firing-iterator ≡ l.fn.self.firings.keys
