use Rattle.sql_tree.specs.declared.select.Item.{Item}
use Rattle.sql_meaning.specs.Parts.{columns_in}
use Rattle.sql_meaning.specs.Scope.{column_at}
use Rattle.sql_names.proofs.Mentioned.{image-turn}
use Rattle.sql_names.proofs.references.add_items.Goals as goal

pub loop-item-preserved : goal.loop-item-preserved
loop-item-preserved c =
    image-turn (column_at c.args.scope.now) (λ (item : Item). columns_in item.tree) c.args.items.now c.loop-item.item-index c.item-item.result c.args.places.now c.loop-item.places c.add_tree.new.places
    c.item-item.is c.loop-item-test.true c.loop-item.invariant c.in_ok-add_tree.ensures
