use Rattle.std.proofs.Common.{◌≡◌, map, take}
use Rattle.sql_tree.specs.declared.select.Item.{Item}
use Rattle.sql_tree.specs.declared.tree.Tree.TheViews.{out-Tree}
use Rattle.sql_meaning.specs.Names.{place_of_node}
use Rattle.sql_names.proofs.outputs.item_places.Given as goal

abbrev pub invariant-loop-item : goal.invariant-loop-item
invariant-loop-item l = l.places ≡ map (λ (item : Item). place_of_node l.scope (out-Tree item.tree)) (take l.item-index l.items)
