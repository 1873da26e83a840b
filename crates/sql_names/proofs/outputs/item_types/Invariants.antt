use Rattle.std.proofs.Common.{◌≡◌, ◌++◌, drop}
use Rattle.std.specs.Prelude.{filter_map}
use Rattle.sql_tree.specs.declared.select.Item.{Item}
use Rattle.sql_meaning.specs.Sizes.{tree_type}
use Rattle.sql_names.proofs.outputs.item_types.Given as goal

abbrev pub invariant-loop-item : goal.invariant-loop-item
invariant-loop-item l =
    l.types ++ filter_map (λ (item : Item). tree_type l.rows l.scope item.tree) (drop l.item-index l.items)
    ≡ filter_map (λ (item : Item). tree_type l.rows l.scope item.tree) l.items
