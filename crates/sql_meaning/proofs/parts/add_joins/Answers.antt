use Rattle.sql_meaning.proofs.Pushed.{joins-turn}
use Rattle.sql_meaning.proofs.parts.add_joins.Goals as goal

pub loop-before-preserved : goal.loop-before-preserved
loop-before-preserved c =
    joins-turn c.args.from.now c.loop-before.before c.index-from-before.result c.in_ok-trees.trees c.args.parts.now c.loop-before.parts c.add_trees.new.parts
    c.index-from-before.is c.loop-before-test.true c.loop-before.invariant c.in_ok-trees.ensures c.in_ok-add_trees.ensures
