use Rattle.sql_meaning.specs.Groups.{misplaced_in}
use Rattle.sql_validator.proofs.Lowest.{lowest-turn}
use Rattle.sql_validator.proofs.groups.misplaced.Goals as goal

pub loop-part-preserved : goal.loop-part-preserved
loop-part-preserved c =
    lowest-turn misplaced_in c.args.parts.now c.loop-part.part-index c.part-item.result c.loop-part.found c.part_misplaced.result c.lower_of-found.result
    c.part-item.is c.loop-part-test.true c.loop-part.invariant c.part_misplaced.ensures c.lower_of-found.ensures
