use Rattle.std.proofs.Common.{subst, sym}
use Rattle.memo_model.specs.Sets as plain
use Rattle.memo_model.specs.Sound.{IsCoherent}
use Rattle.memo_model.specs.Relations.{Settles}
use Rattle.memo_model.proofs.UnitedLemmas.{merge-all}
use Rattle.memo_sets.proofs.RoomSteps.{united-room}
use Rattle.memo_sets.specs.Seen.{sets_of, HasRoom}
use Rattle.memo_sets.proofs.memo.Memo.merge_sets.Goals as goal

pub returns-clause-settles : goal.returns-clause-settles
returns-clause-settles c = λ info sound may.
    let e = c.in_ok-unite.ensures in
    merge-all info (sets_of c.args.self.now) (sets_of c.settle.new.self) c.args.a c.args.b sound may
    (λ s. subst (λ (z : plain.Sets). Settles info z (sets_of c.settle.new.self)) e
    (c.in_ok-settle.ensures.settles info (subst (λ (z : plain.Sets). IsCoherent info z) (sym e) s)))

pub returns-clause-room : goal.returns-clause-room
returns-clause-room c = λ h. c.in_ok-settle.ensures.room (subst HasRoom (sym c.in_ok-unite.ensures) (united-room c.args.a c.args.b (sets_of c.args.self.now) h))
