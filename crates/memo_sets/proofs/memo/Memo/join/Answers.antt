use Rattle.std.proofs.Common.{◌≡◌, ◌∙◌, map, length, get_or, sym, ap, arith, subst}
use Rattle.memo_model.specs.Sets as plain
use Rattle.memo_model.specs.Steps.{united, without}
use Rattle.memo_model.specs.Relations.{Settles}
use Rattle.memo_model.proofs.UnitedLemmas.{united-length, without-length, joined-settles}
use Rattle.memo_sets.proofs.RoomSteps.{joined-room}
use Rattle.memo_sets.specs.Seen.{member_of, sets_of}
use Rattle.memo_sets.proofs.memo.Memo.join.Goals as goal

pub drop_member-requires : goal.drop_member-requires
drop_member-requires c =
    let e = ap (λ (z : plain.Sets). length z.members) c.in_ok-unite.ensures ∙ united-length c.set_of-first.result c.set_of-second.result (sets_of c.args.self.now) in
    let l = c.requires.within in
    omega arith

pub returns-clause-fewer : goal.returns-clause-fewer
returns-clause-fewer c =
    let e = ap (λ (z : plain.Sets). length z.members) c.in_ok-unite.ensures ∙ united-length c.set_of-first.result c.set_of-second.result (sets_of c.args.self.now) in
    let l = c.requires.within in
    let f = ap (λ (z : plain.Sets). length z.members) c.drop_member.ensures in
    let w = without-length c.args.j (sets_of c.unite.new.self) (omega arith) in
    omega arith

pub returns-clause-settles : goal.returns-clause-settles
returns-clause-settles c = λ info sound.
    let slice_i = ap (λ xs. (get_or (map member_of xs) c.args.i c.requires.first).set) c.as_slice.ensures in
    let first = sym (c.set_of-first.ensures c.requires.first) ∙ slice_i ∙ ap (λ (z : plain.Member). z.set) c.requires.first_is in
    let slice_j = ap (λ xs. (get_or (map member_of xs) c.args.j c.requires.second).set) c.as_slice-2.ensures in
    let second = sym (c.set_of-second.ensures c.requires.second) ∙ slice_j ∙ ap (λ (z : plain.Member). z.set) c.requires.second_is in
    let whole = joined-settles info (sets_of c.args.self.now) sound c.args.i c.args.j c.requires in
    let old = sets_of c.args.self.now in
    let step : sets_of c.unite.new.self ≡ united c.requires.first.set c.requires.second.set old =
    c.in_ok-unite.ensures ∙ ap (λ k. united k c.set_of-second.result old) first ∙ ap (λ k. united c.requires.first.set k old) second in
    let all : sets_of c.drop_member.new.self ≡ without c.args.j (united c.requires.first.set c.requires.second.set old) = c.drop_member.ensures ∙ ap (without c.args.j) step in
    subst (λ (z : plain.Sets). Settles info old z) (sym all) whole

pub returns-clause-room : goal.returns-clause-room
returns-clause-room c = λ h.
    joined-room c.set_of-first.result c.set_of-second.result c.args.j (sets_of c.args.self.now) (sets_of c.unite.new.self) (sets_of c.drop_member.new.self) c.in_ok-unite.ensures c.drop_member.ensures h
