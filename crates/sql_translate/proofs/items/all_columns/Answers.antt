use Rattle.std.proofs.Common.{◌∙◌, ◌++◌, ◌∷◌, [], ap}
use Rattle.sql_translate.proofs.Places.{columns-turn}
use Rattle.sql_translate.proofs.items.all_columns.Goals as goal

pub loop-at-preserved : goal.loop-at-preserved
loop-at-preserved c =
    columns-turn c.args.items.now c.loop-at.at c.loop-at.columns c.push.new.self _ c.loop-at-test.true c.loop-at.invariant
    (c.in_ok-push.ensures.ok ∙ ap (λ n. c.loop-at.columns ++ n ∷ []) c.in_ok-column_number.ensures)
