use Rattle.std.proofs.Common.{◌≡◌, ◌++◌, take}
use Rattle.std.specs.List.{flat_map}
use Rattle.sql_tree.specs.declared.select.Item.{Item}
use Rattle.sql_meaning.specs.Mentions.{tree_mentions}
use Rattle.sql_names.proofs.mentions.add_items.Given as goal

abbrev pub invariant-loop-item : goal.invariant-loop-item
invariant-loop-item l = l.all ≡ l.initial.all ++ flat_map (λ (item : Item). tree_mentions l.scope item.tree) (take l.item-index l.items)
