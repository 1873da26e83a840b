use Rattle.std.proofs.Common.{◌≡◌, ◌≤◌, ◌-◌, length}
use Rattle.cal_outside.proofs.Turns.{IsStart}
use Rattle.cal_outside.proofs.whole.read_all.Given as goal

abbrev pub invariant-turns : goal.invariant-turns
invariant-turns g l = record {
  within : length l.bytes.items ≤ l.limit;
  same : g.S.Store.state l.store ≡ g.S.Store.state l.initial.store;
  start : IsStart (g.S.Store.state l.initial.store) l.name l.bytes.items;
}

abbrev pub decreases-turns : goal.decreases-turns
decreases-turns g l = l.limit - length l.bytes.items
