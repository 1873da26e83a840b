use Rattle.sql_tree.specs.declared.select.OrderKey.{OrderKey}
use Rattle.sql_meaning.specs.Mentions.{named_by}
use Rattle.sql_meaning.specs.Scope.{column_at}
use Rattle.sql_names.proofs.Mentioned.{image-turn}
use Rattle.sql_names.proofs.references.add_keys.Goals as goal

pub loop-key-preserved : goal.loop-key-preserved
loop-key-preserved c =
    image-turn (column_at c.args.scope.now) (λ (key : OrderKey). named_by key.by) c.args.keys.now c.loop-key.key-index c.key-item.result c.args.places.now c.loop-key.places c.add_key.new.places
    c.key-item.is c.loop-key-test.true c.loop-key.invariant c.in_ok-add_key.ensures
