-- The answer of `register`, from the steps that it makes.
use Rattle.std.proofs.Common.{◌≡◌, ◌≢◌, ℕ, List, Some, sym, ◌∙◌, ap, subst, inl, inr, ◌⊎◌, arith, min, max}
use Rattle.cal_rel.specs.Info.{Info}
use Rattle.cal_rel.specs.Tree.{Tree}
use Rattle.memo_model.specs.Sets.{Sets, Stands}
use Rattle.memo_model.specs.Sound.{IsSound, MayRegister}
use Rattle.memo_model.specs.Steps.{Placed, entered}
use Rattle.memo_model.proofs.FreshLemmas.{WasKnown, WasNew}
use Rattle.memo_model.proofs.ExactLemmas.{exact}
use Rattle.memo_sets.specs.Faults.{Leaves}
use Rattle.memo_sets.specs.declared.register.Registered.{Registered}
use Rattle.memo_sets.specs.declared.register.Registered.TheVariants.{Added, Known, Merged}
use Rattle.memo_sets.specs.Answers.{IsAnswer, IsAnswerIn}

answer-of : (m : Sets) (x : Tree) (s : ℕ) (r : Placed) (answer : Registered) → WasKnown m x r ⊎ (WasNew m x r × (r.set ≡ s)) → r.set ≡ s
    → IsAnswerIn s m.added r.sets.added answer → IsAnswer m.members x s answer
answer-of m x s r (Added k) (inl known) at is = let a = known.added in let n = is.1 in absurd (n (sym a))
answer-of m x s r (Added k) (inr new) at is = (is.0, new.0.nowhere)
answer-of m x s r (Known k) (inl known) at is = (is.0, subst (λ j. Stands m.members j x) at known.stood)
answer-of m x s r (Known k) (inr new) at is = let a = new.0.added in let b = is.1 in absurd (omega arith)
answer-of m x s r (Merged kept gone) known at is = absurd is

merged-of : (m : Sets) (x : Tree) (s : ℕ) (r : Placed) → WasKnown m x r ⊎ (WasNew m x r × (r.set ≡ s)) → r.set ≢ s
    → Stands m.members r.set x
merged-of m x s r (inl known) apart = known.stood
merged-of m x s r (inr new) apart = absurd (apart new.1)

module _ (info : Info) (m start after : Sets) (x : Tree) (s found : ℕ) (e : start ≡ m) (leaves : Leaves (entered info (Some s) x start) after found)
    (sound : IsSound info m) (may : MayRegister info m x s) where
  found_is : found ≡ (entered info (Some s) x m).set
  found_is = leaves.set_is ∙ ap (λ z. (entered info (Some s) x z).set) e

  pub placed-answer : (answer : Registered) → found ≡ s → IsAnswerIn s m.added after.added answer → IsAnswer m.members x s answer
  placed-answer answer same is =
      let after_is : after ≡ (entered info (Some s) x m).sets = leaves.sets_is ∙ ap (λ z. (entered info (Some s) x z).sets) e in
      let on : IsAnswerIn s m.added (entered info (Some s) x m).sets.added answer = subst (λ (z : Sets). IsAnswerIn s m.added z.added answer) after_is is in
      answer-of m x s (entered info (Some s) x m) answer (exact info s x m may.own sound.coherent sound.unique may.typed) (sym found_is ∙ same) on

  pub merged-answer : (kept gone : ℕ) → found ≢ s → kept ≡ min found s → gone ≡ max found s → (j : ℕ) × Stands m.members j x × (j ≢ s) × (kept ≡ min j s) × (gone ≡ max j s)
  merged-answer kept gone apart k g =
      let stood = merged-of m x s (entered info (Some s) x m) (exact info s x m may.own sound.coherent sound.unique may.typed) (λ h. apart (found_is ∙ h)) in
      (found, subst (λ j. Stands m.members j x) (sym found_is) stood, apart, k, g)
