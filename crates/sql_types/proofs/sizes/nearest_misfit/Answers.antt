use Rattle.sql_meaning.specs.Sizes.{part_misfits}
use Rattle.sql_types.proofs.Nearest.{nearest-turn}
use Rattle.sql_types.proofs.sizes.nearest_misfit.Goals as goal

pub loop-part-preserved : goal.loop-part-preserved
loop-part-preserved c =
    nearest-turn (part_misfits c.args.rows c.args.scope.now) c.args.parts.now c.loop-part.part-index c.part-item.result c.loop-part.found c.part_misfit.result c.nearer_of-found.result
    c.part-item.is c.loop-part-test.true c.loop-part.invariant c.part_misfit.ensures c.nearer_of-found.ensures
