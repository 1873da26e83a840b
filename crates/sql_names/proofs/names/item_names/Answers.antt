use Rattle.sql_names.proofs.Named.{names-turn}
use Rattle.sql_names.proofs.names.item_names.Goals as goal

pub loop-place-preserved : goal.loop-place-preserved
loop-place-preserved c =
    names-turn c.args.items.now c.loop-place.place c.index-items-place.result c.in_ok-name.name c.loop-place.names c.push.new.self c.index-items-place.is c.loop-place-test.true c.loop-place.invariant c.in_ok-name.ensures c.in_ok-push.ensures.ok
