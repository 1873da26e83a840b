-- Merges take no room.
use Rattle.std.proofs.Common.{◌≡◌, ℕ, ◌<◌, Bool, true, false, cond, List, length, None, refl, sym, ◌∙◌, ap, subst}
use Rattle.std.specs.Prelude.{slice_set, nat_lt}
use Rattle.std.proofs.lemmas.List.{length-set}
use Rattle.cal_rel.specs.Info.{set_at}
use Rattle.memo_model.specs.Sets.{Sets}
use Rattle.memo_model.specs.Steps.{met, merged, united, without}
use Rattle.memo_sets.specs.Seen.{HasRoom}

merged-room : (a b : ℕ) (m : Sets) → HasRoom m → HasRoom (merged a b m)
merged-room a b m h =
    let o = met (set_at m.types a) (set_at m.types b) in
    let e : length (merged a b m).types ≡ length m.types = length-set (slice_set m.types a o) b None ∙ length-set m.types a o in
    record { made = rw e h.made; full = h.full }

by_order : (p q : Bool) (a b : ℕ) (m : Sets) → HasRoom m → HasRoom (cond p (merged a b m) (cond q (merged b a m) m))
by_order true q a b m h = merged-room a b m h
by_order false true a b m h = merged-room b a m h
by_order false false a b m h = h

pub united-room : (a b : ℕ) (m : Sets) → HasRoom m → HasRoom (united a b m)
unfolding united
united-room a b m h = by_order (nat_lt a b) (nat_lt b a) a b m h

pub joined-room : (a b j : ℕ) (m mid new : Sets) → mid ≡ united a b m → new ≡ without j mid → HasRoom m → HasRoom new
joined-room a b j m mid new e f h = rw (f, e) (record { made = (united-room a b m h).made; full = (united-room a b m h).full })
