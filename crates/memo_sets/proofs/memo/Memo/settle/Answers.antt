use Rattle.memo_model.proofs.KeepLemmas.{settles-refl, settles-trans}
use Rattle.memo_sets.specs.Seen.{sets_of}
use Rattle.memo_sets.proofs.memo.Memo.settle.Goals as goal

pub loop-i-init : goal.loop-i-init
loop-i-init c = record { settles = λ info coherent. settles-refl info (sets_of c.args.self.now) coherent; room = λ h. h }

pub loop-i-preserved : goal.loop-i-preserved
loop-i-preserved c = record {
  settles = λ info coherent.
      let so_far = c.loop-i.invariant.settles info coherent in
      settles-trans info (sets_of c.args.self.now) (sets_of c.loop-i.self) (sets_of c.join.new.self) so_far (c.in_ok-join.ensures.settles info so_far.coherent);
  room = λ h. c.in_ok-join.ensures.room (c.loop-i.invariant.room h);
}
