use Rattle.sql_tree.specs.declared.select.FromEntry.{FromEntry}
use Rattle.sql_meaning.specs.Mentions.{how_columns}
use Rattle.sql_meaning.specs.Scope.{column_at}
use Rattle.sql_names.proofs.Mentioned.{image-turn}
use Rattle.sql_names.proofs.references.add_joins.Goals as goal

pub loop-entry-preserved : goal.loop-entry-preserved
loop-entry-preserved c =
    image-turn (column_at c.args.scope.now) (λ (entry : FromEntry). how_columns entry.how) c.args.from.now c.loop-entry.entry-index c.entry-item.result c.args.places.now c.loop-entry.places c.add_how.new.places
    c.entry-item.is c.loop-entry-test.true c.loop-entry.invariant c.in_ok-add_how.ensures
