use Rattle.std.proofs.Common.{refl}
use Rattle.sql_meaning.specs.Groups.{Aggregates, aggregates_step}
use Rattle.sql_validator.proofs.Lowest.{lowest-Binary}
use Rattle.sql_validator.proofs.groups.+lowest_nested.Goals as goal

pub returns-in-Binary : goal.returns-in-Binary
returns-in-Binary t c =
    lowest-Binary aggregates_step (λ (a : Aggregates). a.nested) (λ place op a b. refl) c.in-Binary.place c.in-Binary.op c.in-Binary.left c.in-Binary.right
    c.args.tree.now c.get-in-Binary.result.now c.get-in-Binary-2.result.now c.lowest_nested-left.result c.lowest_nested-right.result _
    c.in-Binary.is c.get-in-Binary.ensures c.get-in-Binary-2.ensures c.lowest_nested-left.ensures c.lowest_nested-right.ensures c.lower_of.ensures
