use Rattle.cal_start.proofs.EndLemmas.{ended}
use Rattle.cal_start.proofs.run.start_into.Goals as goal

pub returns-clause-ended : goal.returns-clause-ended
returns-clause-ended g c =
    ended (g.S.Store.state c.args.store.now) (g.S.Store.state c.start_model.new.store) (g.S.Store.state c.start_tables.new.store) _ c.in_ok-doc.doc _ _ _ c.in_ok-doc.ensures.later c.in_ok-doc.ensures.says c.start_tables.ensures.says
