use Rattle.std.proofs.Common.{ap, sym, ◌∙◌, Option}
use Rattle.sql_tree.specs.declared.tree.Tree.{Tree}
use Rattle.sql_tree.specs.declared.tree.Tree.TheVariants.{Aggregate}
use Rattle.sql_meaning.specs.Kinds.{kinded}
use Rattle.sql_types.specs.Walks.{judged_of}
use Rattle.sql_types.proofs.Lowest.{judged-Binary, judged-Aggregate}
use Rattle.sql_types.proofs.kinds.+judge.Goals as goal

pub returns-in-Binary : goal.returns-in-Binary
returns-in-Binary t c =
    judged-Binary c.args.scope.now c.in-Binary.place c.in-Binary.op c.in-Binary.left c.in-Binary.right c.judge-a-in-Binary.result c.judge-b.result _ c.op_clash.result c.lower_of-in-Binary.result _
    (c.judge-a-in-Binary.ensures ∙ ap (λ (tree : Tree). judged_of (kinded c.args.scope.now tree)) c.get-in-Binary.ensures)
    (c.judge-b.ensures ∙ ap (λ (tree : Tree). judged_of (kinded c.args.scope.now tree)) c.get-in-Binary-2.ensures)
    c.op_kind.ensures c.op_clash.ensures c.lower_of-in-Binary.ensures c.lower_of-in-Binary-2.ensures
    ∙ ap (λ (tree : Tree). judged_of (kinded c.args.scope.now tree)) (sym c.in-Binary.is)

pub returns-in-Some : goal.returns-in-Some
returns-in-Some t c =
    judged-Aggregate c.args.scope.now c.in-Aggregate.place c.in-Aggregate.agg c.in-Some.argument c.judge-in-Some.result _
    (c.judge-in-Some.ensures ∙ ap (λ (tree : Tree). judged_of (kinded c.args.scope.now tree)) c.get-in-Some.ensures)
    c.aggregate.ensures
    ∙ ap (λ (tree : Tree). judged_of (kinded c.args.scope.now tree)) (sym (c.in-Aggregate.is ∙ ap (λ (o : Option Tree). Aggregate c.in-Aggregate.place c.in-Aggregate.agg o) c.in-Some.is))
