use Rattle.sql_meaning.specs.Scope.{column_at}
use Rattle.sql_meaning.proofs.Pushed.{map-turn}
use Rattle.sql_names.proofs.references.add_columns.Goals as goal

pub loop-column-preserved : goal.loop-column-preserved
loop-column-preserved c =
    map-turn (column_at c.args.scope.now) c.args.columns.now c.loop-column.column-index c.column-item.result c.args.places.now c.loop-column.places c.add_column.new.places
    c.column-item.is c.loop-column-test.true c.loop-column.invariant c.in_ok-add_column.ensures
