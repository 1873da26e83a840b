use Rattle.sql_meaning.specs.Groups.{part_ungrouped}
use Rattle.sql_validator.proofs.Lowest.{lowest-turn}
use Rattle.sql_validator.proofs.groups.parts_ungrouped.Goals as goal

pub loop-part-preserved : goal.loop-part-preserved
loop-part-preserved c =
    lowest-turn (part_ungrouped c.args.scope.now c.args.groups.now) c.args.parts.now c.loop-part.part-index c.part-item.result c.loop-part.found c.part_ungrouped.result c.lower_of-found.result
    c.part-item.is c.loop-part-test.true c.loop-part.invariant c.part_ungrouped.ensures c.lower_of-found.ensures
