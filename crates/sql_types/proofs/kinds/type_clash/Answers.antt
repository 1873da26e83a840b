use Rattle.sql_meaning.specs.Kinds.{part_clashes}
use Rattle.sql_types.proofs.Lowest.{lowest-turn}
use Rattle.sql_types.proofs.kinds.type_clash.Goals as goal

pub loop-part-preserved : goal.loop-part-preserved
loop-part-preserved c =
    lowest-turn (part_clashes c.args.scope.now) c.args.parts.now c.loop-part.part-index c.part-item.result c.loop-part.found c.part_clash.result c.lower_of-found.result
    c.part-item.is c.loop-part-test.true c.loop-part.invariant c.part_clash.ensures c.lower_of-found.ensures
