use Rattle.std.proofs.Common.{◌≡◌, ◌++◌, ◌+◌, length, drop}
use Rattle.exec_ops.specs.Steps.{grouped_at}
use Rattle.exec_ops.proofs.groups.groups_of.Given as goal

abbrev pub invariant-loop-key : goal.invariant-loop-key
invariant-loop-key l = record {
  made : l.groups ++ grouped_at l.calls l.rows l.key-iterator (drop (length l.groups) l.places.items) ≡ grouped_at l.calls l.rows l.fn.index.keys.keys l.fn.index.places.items;
  left : length l.groups + length l.key-iterator ≡ length l.places.items;
}
