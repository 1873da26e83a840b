use Rattle.std.proofs.Common.{◌∙◌, ap, List}
use Rattle.sql_meaning.specs.Bounds.{joined_bound}
use Rattle.sql_meaning.specs.Scope.{Header}
use Rattle.sql_types.proofs.Bounded.{bound-turn}
use Rattle.sql_types.proofs.bounds.row_bound.Goals as goal

pub loop-before-preserved : goal.loop-before-preserved
loop-before-preserved c =
    bound-turn c.args.scope.now c.loop-before.before c.index-scope-before.result c.loop-before.rows c.in_ok-rows.rows c.index-scope-before.is c.loop-before-test.true c.loop-before.invariant
    (c.in_ok-rows.ensures ∙ ap (λ (hs : List Header). joined_bound hs c.index-scope-before.result c.loop-before.rows) c.seen.ensures)
