use Rattle.std.proofs.Common.{refl, ℕ, List}
use Rattle.sql_meaning.specs.Groups.{ungrouped_step}
use Rattle.sql_validator.proofs.Lowest.{lowest-Binary}
use Rattle.sql_validator.proofs.groups.+lowest_ungrouped.Goals as goal

pub returns-in-Binary : goal.returns-in-Binary
returns-in-Binary t c =
    lowest-Binary (ungrouped_step c.args.scope.now c.args.groups.now) (λ (places : List ℕ). places) (λ place op a b. refl) c.in-Binary.place c.in-Binary.op c.in-Binary.left c.in-Binary.right
    c.args.tree.now c.get-in-Binary.result.now c.get-in-Binary-2.result.now c.lowest_ungrouped-left.result c.lowest_ungrouped-right.result _
    c.in-Binary.is c.get-in-Binary.ensures c.get-in-Binary-2.ensures c.lowest_ungrouped-left.ensures c.lowest_ungrouped-right.ensures c.lower_of.ensures
