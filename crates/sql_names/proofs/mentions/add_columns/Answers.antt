use Rattle.sql_meaning.specs.Mentions.{column_mention}
use Rattle.sql_meaning.proofs.Pushed.{map-turn}
use Rattle.sql_names.proofs.mentions.add_columns.Goals as goal

pub loop-column-preserved : goal.loop-column-preserved
loop-column-preserved c =
    map-turn (column_mention c.args.scope.now) c.args.columns.now c.loop-column.column-index c.column-item.result c.args.all.now c.loop-column.all c.add_column.new.all
    c.column-item.is c.loop-column-test.true c.loop-column.invariant c.in_ok-add_column.ensures
