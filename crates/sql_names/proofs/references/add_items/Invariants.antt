use Rattle.std.proofs.Common.{◌≡◌, ◌++◌, map, take}
use Rattle.std.specs.List.{flat_map}
use Rattle.sql_tree.specs.declared.select.Item.{Item}
use Rattle.sql_meaning.specs.Parts.{columns_in}
use Rattle.sql_meaning.specs.Scope.{column_at}
use Rattle.sql_names.proofs.references.add_items.Given as goal

abbrev pub invariant-loop-item : goal.invariant-loop-item
invariant-loop-item l = l.places ≡ l.initial.places ++ map (column_at l.scope) (flat_map (λ (item : Item). columns_in item.tree) (take l.item-index l.items))
