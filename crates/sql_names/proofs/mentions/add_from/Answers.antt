use Rattle.sql_names.proofs.Mentioned.{from-turn}
use Rattle.sql_names.proofs.mentions.add_from.Goals as goal

pub loop-at-preserved : goal.loop-at-preserved
loop-at-preserved c =
    from-turn c.args.scope.now c.loop-at.at c.index-scope-at.result c.args.all.now c.loop-at.all c.add_entry.new.all
    c.index-scope-at.is c.loop-at-test.true c.loop-at.invariant c.in_ok-add_entry.ensures
