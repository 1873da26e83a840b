use Rattle.std.proofs.Common.{◌≡◌, ◌++◌, map, take}
use Rattle.std.specs.List.{flat_map}
use Rattle.sql_tree.specs.declared.select.OrderKey.{OrderKey}
use Rattle.sql_meaning.specs.Mentions.{column_mention, named_by}
use Rattle.sql_names.proofs.mentions.add_keys.Given as goal

abbrev pub invariant-loop-key : goal.invariant-loop-key
invariant-loop-key l = l.all ≡ l.initial.all ++ flat_map (λ (key : OrderKey). map (column_mention l.scope) (named_by key.by)) (take l.key-index l.keys)
