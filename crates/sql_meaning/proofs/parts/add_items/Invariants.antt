use Rattle.std.proofs.Common.{◌≡◌, ◌++◌, map, take}
use Rattle.sql_tree.specs.declared.select.Item.{Item as ItemOf}
use Rattle.sql_meaning.specs.declared.parts.Role.TheVariants.{Item}
use Rattle.sql_meaning.specs.Parts.{part}
use Rattle.sql_meaning.proofs.parts.add_items.Given as goal

abbrev pub invariant-loop-item : goal.invariant-loop-item
invariant-loop-item l = l.parts ≡ l.initial.parts ++ map (λ (item : ItemOf). part l.entries Item item.tree) (take l.item-index l.items)
