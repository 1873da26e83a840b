use Rattle.std.proofs.Common.{◌∙◌, ◌++◌, ap, sym}
use Rattle.std.proofs.lemmas.Simd.{map-map}
use Rattle.sql_tree.specs.declared.select.Item.{Item as ItemOf}
use Rattle.sql_meaning.specs.declared.parts.Role.TheVariants.{Item}
use Rattle.sql_meaning.specs.Parts.{part}
use Rattle.sql_meaning.proofs.Pushed.{map-whole}
use Rattle.sql_meaning.proofs.parts.add_items.Goals as goal

pub returns : goal.returns
returns c =
    map-whole (λ (item : ItemOf). part c.args.entries Item item.tree) c.args.items.now c.loop-item.item-index c.args.parts.now c.loop-item.parts c.loop-item-test.false c.loop-item.invariant
    ∙ ap (λ ps. c.args.parts.now ++ ps) (sym (map-map (part c.args.entries Item) (λ (item : ItemOf). item.tree) c.args.items.now))
