use Rattle.std.proofs.Common.{◌∙◌, ap, sym, map, unwrap_or}
use mathlib.Core.Path.{ap₂}
use Rattle.std.proofs.lemmas.Result.{IfOk-weaker}
use Rattle.cal_rel.specs.Tree.{unary, aggregate_by, tree_of}
use Rattle.cal_rel.proofs.TreeSteps.{tree-Aggregate}
use Rattle.sql_algebra.specs.Algebra.{call_over, column_in}
use Rattle.sql_translate.proofs.Steps.{own-groups}
use Rattle.sql_translate.proofs.aggregates.over_columns.Goals as goal

pub returns : goal.returns
returns c =
    IfOk-weaker c.aggregate.result _ _
    (λ rel e. ap tree_of e
    ∙ tree-Aggregate c.args.tree c.in_ok-groups.groups c.in_ok-calls.calls
    ∙ ap₂ (λ gs cs. unary (aggregate_by gs cs) (tree_of c.args.tree))
    (c.in_ok-groups.ensures ∙ sym (own-groups c.args.layout.now.groups))
    (c.in_ok-calls.ensures ∙ ap (map (call_over (λ e. unwrap_or (column_in e) 0))) c.as_slice.ensures))
    c.aggregate.ensures
