use Rattle.std.proofs.Common.{Some, map}
use Rattle.cal_top.specs.declared.record.TopFault.TheVariants.{NoMemory}
use Rattle.cal_top.proofs.RunLemmas.{cause_without_memory, calm_when_valid, fine_end}
use Rattle.cal_top.proofs.query.run_query.Goals as goal

pub returns-in-None-clause-run : goal.returns-in-None-clause-run
returns-in-None-clause-run g c = (
  Some NoMemory,
  rw (c.finish-in-None.ensures.files, c.finish-in-None.ensures.db, c.finish-in-None.ensures.reply) (cause_without_memory
      (map (λ b. (goal.Rule-dyn g (b.vtable, b.value)).meaning b.value) c.args.rules.now) (g.S.Store.state c.args.store.now) (g.S.Store.state c.look-fault.new.store) c.args.words.now
      c.look-fault.result.fault c.look-fault.result.files c.look-fault.result.db c.look-fault.result.reply c.look-fault.ensures.cause),
  c.finish-in-None.ensures.ends,
)

pub returns-in-Some-clause-complete : goal.returns-in-Some-clause-complete
returns-in-Some-clause-complete g c =
    λ valid calm still. fine_end _ _ _ _ _
    (calm_when_valid (map (λ b. (goal.Rule-dyn g (b.vtable, b.value)).meaning b.value) c.args.rules.now) (g.S.Store.state c.args.store.now) (g.S.Store.state c.look-fault.new.store) c.args.words.now
    c.look-fault.result.fault c.look-fault.result.files c.look-fault.result.db c.look-fault.result.reply valid calm c.look-fault.ensures.cause)
    still c.finish.ensures.ends
