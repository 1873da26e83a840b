-- What the calls leave, by the steps that they make.
use Rattle.std.proofs.Common.{◌≡◌, ◌≢◌, ℕ, ◌≤◌, List, Some, None, sym, ◌∙◌, ap, subst}
use Rattle.std.specs.Prelude.{Result, IfOk, OnOk}
use Rattle.std.proofs.lemmas.Option.{same_Some}
use Rattle.std.proofs.lemmas.Result.{IfOk-weaker, on_ok_weaker}
use Rattle.cal_schema.specs.declared.rel_type.RelType.{RelType}
use Rattle.cal_rel.specs.Info.{Info}
use Rattle.cal_rel.specs.Tree.{Tree}
use Rattle.cal_rel.specs.Typing.{type_of}
use Rattle.memo_model.specs.declared.TheConstants.{MEMBER_LIMIT}
use Rattle.memo_model.specs.Sets.{Sets, became}
use Rattle.memo_model.specs.Sound.{over, IsCoherent, IsSound, IsUnique, MayMerge, MayStand, MayRegister}
use Rattle.memo_model.specs.Relations.{Settles, Registers}
use Rattle.memo_model.specs.Steps.{Placed, entered}
use Rattle.memo_model.proofs.RegisterLemmas.{seed-registers, placed-registers, merged-registers}
use Rattle.memo_sets.specs.Faults.{Leaves}
use Rattle.memo_sets.specs.declared.register.Registered.{Registered}
use Rattle.memo_sets.specs.declared.register.Registered.TheVariants.{Added, Known, Merged}
use Rattle.memo_sets.specs.Answers.{IsSeeded, IsRegistered, IsPlacedBy, IsPlacedUnlessMerged, IsAnswerIn}
use Rattle.memo_sets.specs.Seen.{HasRoom}

pub room-sound : (info : Info) (m start : Sets) → IsSound info m → start ≡ m → HasRoom start
room-sound info m start sound e = subst HasRoom (sym e) (record { made = sound.coherent.made; full = sound.full })

full-after : (p : Placed) (after : Sets) (set : ℕ) → Leaves p after set → p.sets.added ≤ MEMBER_LIMIT
full-after p after set leaves = subst (λ (z : Sets). z.added ≤ MEMBER_LIMIT) leaves.sets_is leaves.room.full

module _ (info : Info) (m start after : Sets) (x : Tree) (e : start ≡ m) where
  pub seed-placed : (set : ℕ) (new : Sets) → Leaves (entered info None x start) after set → new ≡ after → IsPlacedBy (entered info None x m) new set
  seed-placed set new leaves same =
      let on : Leaves (entered info None x m) after set = subst (λ z. Leaves (entered info None x z) after set) e leaves in
      record { sets = same ∙ on.sets_is; set_is = on.set_is }

  pub register-placed : (s found : ℕ) (new : Sets) → Leaves (entered info (Some s) x start) after found → new ≡ after → new ≡ (entered info (Some s) x m).sets
  register-placed s found new leaves same = same ∙ leaves.sets_is ∙ ap (λ z. (entered info (Some s) x z).sets) e

  pub answered-placed : (before s : ℕ) (p : Placed) (new : Sets) (answer : Registered) → new ≡ p.sets → IsAnswerIn s before after.added answer → IsPlacedUnlessMerged p new answer
  answered-placed before s p new (Added k) same is = same
  answered-placed before s p new (Known k) same is = same
  answered-placed before s p new (Merged kept gone) same is = tt

module _ (info : Info) (m start after : Sets) (x : Tree) (e : start ≡ m) (sound : IsSound info m) where
  pub seed-done : (set : ℕ) (new : Sets) → Leaves (entered info None x start) after set → new ≡ after → IsSeeded info m new x set
  seed-done set new leaves same = λ t typed.
      let on : Leaves (entered info None x m) after set = subst (λ z. Leaves (entered info None x z) after set) e leaves in
      let is = seed-registers info m x t sound typed (full-after (entered info None x m) after set on) in
      rw (same, on.sets_is, on.set_is) is

  module _ (s found : ℕ) (leaves : Leaves (entered info (Some s) x start) after found) (may : MayRegister info m x s) where
    stand-at : (t : RelType) → type_of (over info m.types) x ≡ Some t → MayStand info m x t s
    stand-at t typed = subst (λ z. MayStand info m x z s) (same_Some may.own t (sym may.typed ∙ typed)) may.stand

    leaves-on : Leaves (entered info (Some s) x m) after found
    leaves-on = subst (λ z. Leaves (entered info (Some s) x z) after found) e leaves

    pub placed-done : (new : Sets) → found ≡ s → new ≡ after → IsRegistered info m new x s
    placed-done new same new_is = λ t typed.
        let at : (entered info (Some s) x m).set ≡ s = sym leaves-on.set_is ∙ same in
        let is = placed-registers info m x t s sound typed (stand-at t typed) (full-after (entered info (Some s) x m) after found leaves-on) at in
        rw (new_is, leaves-on.sets_is) is

    pub merged-done : (mid new : Sets) → mid ≡ after → found ≢ s
        → (IsCoherent info mid → MayMerge info mid found s → Settles info mid new × (became new.numbers found ≡ became new.numbers s)) → IsUnique new.members
        → IsRegistered info m new x s
    merged-done mid new mid_is apart settles unique = λ t typed.
        let r = entered info (Some s) x m in
        let sets_is : mid ≡ r.sets = mid_is ∙ leaves-on.sets_is in
        let set_is : found ≡ r.set = leaves-on.set_is in
        let on : IsCoherent info r.sets → MayMerge info r.sets r.set s → Settles info r.sets new × (became new.numbers r.set ≡ became new.numbers s) =
        rw (← sets_is, ← set_is) settles in
        merged-registers info m new x t s sound typed (stand-at t typed) (full-after r after found leaves-on) (λ h. apart (set_is ∙ h)) on unique

-- the premises of the calls

pub seed-premise : {E : Type 0} (info : Info) (m new : Sets) (x : Tree) (r : Result ℕ E) → IsSound info m → IfOk r (λ set. IsSound info m → IsSeeded info m new x set) → IfOk r (λ set. IsSeeded info m new x set)
seed-premise info m new x r sound h = IfOk-weaker r (λ set. IsSound info m → IsSeeded info m new x set) (λ set. IsSeeded info m new x set) (λ set f. f sound) h

pub register-premises : {A E : Type 0} (info : Info) (m new : Sets) (x : Tree) (s : ℕ) (r : Result A E) → IsSound info m → MayRegister info m x s
    → OnOk r (IsSound info m → MayRegister info m x s → IsRegistered info m new x s) → OnOk r (IsRegistered info m new x s)
register-premises info m new x s r sound may h = on_ok_weaker r (λ f. f sound may) h
