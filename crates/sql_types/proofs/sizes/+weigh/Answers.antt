use Rattle.std.proofs.Common.{ap, sym, ◌∙◌, Option}
use Rattle.sql_tree.specs.declared.tree.Tree.{Tree}
use Rattle.sql_tree.specs.declared.tree.Tree.TheVariants.{Aggregate}
use Rattle.sql_meaning.specs.Sizes.{sized}
use Rattle.sql_types.specs.Walks.{weighed_of}
use Rattle.sql_types.proofs.Nearest.{weighed-Binary, weighed-Aggregate}
use Rattle.sql_types.proofs.sizes.+weigh.Goals as goal

pub returns-in-Binary : goal.returns-in-Binary
returns-in-Binary t c =
    weighed-Binary c.args.rows c.args.scope.now c.in-Binary.place c.in-Binary.op c.in-Binary.left c.in-Binary.right c.weigh-a-in-Binary.result c.weigh-b.result _ c.parts_own-own.result c.nearer_of-in-Binary.result _
    (c.weigh-a-in-Binary.ensures ∙ ap (λ (tree : Tree). weighed_of (sized c.args.rows c.args.scope.now tree)) c.get-in-Binary.ensures)
    (c.weigh-b.ensures ∙ ap (λ (tree : Tree). weighed_of (sized c.args.rows c.args.scope.now tree)) c.get-in-Binary-2.ensures)
    c.parts_type.ensures c.parts_own-own.ensures c.nearer_of-in-Binary.ensures c.nearer_of-in-Binary-2.ensures
    ∙ ap (λ (tree : Tree). weighed_of (sized c.args.rows c.args.scope.now tree)) (sym c.in-Binary.is)

pub returns-in-Some : goal.returns-in-Some
returns-in-Some t c =
    weighed-Aggregate c.args.rows c.args.scope.now c.in-Aggregate.place c.in-Aggregate.agg c.in-Some.argument c.weigh.result _
    (c.weigh.ensures ∙ ap (λ (tree : Tree). weighed_of (sized c.args.rows c.args.scope.now tree)) c.get-in-Some.ensures)
    c.aggregate.ensures
    ∙ ap (λ (tree : Tree). weighed_of (sized c.args.rows c.args.scope.now tree)) (sym (c.in-Aggregate.is ∙ ap (λ (o : Option Tree). Aggregate c.in-Aggregate.place c.in-Aggregate.agg o) c.in-Some.is))
