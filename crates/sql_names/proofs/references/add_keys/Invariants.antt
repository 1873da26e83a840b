use Rattle.std.proofs.Common.{◌≡◌, ◌++◌, map, take}
use Rattle.std.specs.List.{flat_map}
use Rattle.sql_tree.specs.declared.select.OrderKey.{OrderKey}
use Rattle.sql_meaning.specs.Mentions.{named_by}
use Rattle.sql_meaning.specs.Scope.{column_at}
use Rattle.sql_names.proofs.references.add_keys.Given as goal

abbrev pub invariant-loop-key : goal.invariant-loop-key
invariant-loop-key l = l.places ≡ l.initial.places ++ map (column_at l.scope) (flat_map (λ (key : OrderKey). named_by key.by) (take l.key-index l.keys))
