-- Two sets become one, whichever number is the lower.
use Rattle.std.proofs.Common.{◌≡◌, ◌≢◌, ℕ, suc, ◌<◌, ◌⊎◌, inl, inr, true, false, List, length, take, drop, refl, sym, ◌∙◌, ap, arith}
use Rattle.std.specs.Prelude.{nat_lt}
use Rattle.std.proofs.lemmas.Bool.{cases_order}
use Rattle.std.proofs.lemmas.Bool.Decides.{nat_tests}
use Rattle.std.proofs.lemmas.List.{length-map, length-append, length-take, length-drop}
use Rattle.cal_rel.specs.Info.{Info}
use Rattle.memo_model.specs.Sets.{Sets, became}
use Rattle.memo_model.specs.Sound.{IsCoherent, MayMerge}
use Rattle.memo_model.specs.Relations.{Settles, IsTwice}
use Rattle.memo_model.specs.Steps.{moved, merged, united, without}
use Rattle.memo_model.proofs.NumberLemmas.{in_place-gone, in_place-other}
use Rattle.memo_model.proofs.KeepLemmas.{settles-refl, settles-trans}
use Rattle.memo_model.proofs.MergeLemmas.{merged-settles}
use Rattle.memo_model.proofs.CascadeLemmas.{may-turned, twice-may, join-one, join-two}
use Rattle.memo_model.proofs.RegisterLemmas.{merged-number, number-on}

united-low : (a b : ℕ) (m : Sets) → a < b → united a b m ≡ merged a b m
unfolding united
united-low a b m l = let t : nat_lt a b ≡ true = grind (arith, nat_tests) in rw t refl

united-high : (a b : ℕ) (m : Sets) → b < a → united a b m ≡ merged b a m
unfolding united
united-high a b m l =
    let t : nat_lt a b ≡ false = grind (arith, nat_tests) in
    let u : nat_lt b a ≡ true = grind (arith, nat_tests) in
    rw (t, u) refl

united-one : (a b : ℕ) (m : Sets) → a ≡ b → united a b m ≡ m
unfolding united
united-one a b m e =
    let t : nat_lt a b ≡ false = grind (arith, nat_tests) in
    let u : nat_lt b a ≡ false = grind (arith, nat_tests) in
    rw (t, u) refl

pub united-length : (a b : ℕ) (m : Sets) → length (united a b m).members ≡ length m.members
united-length a b m = elim (cases_order a b) [
  | inl e ↦ ap (λ (z : Sets). length z.members) (united-one a b m e)
  | inr n ↦ elim n [
    | inl l ↦ ap (λ (z : Sets). length z.members) (united-low a b m l) ∙ length-map m.members (moved a b)
    | inr l ↦ ap (λ (z : Sets). length z.members) (united-high a b m l) ∙ length-map m.members (moved b a)
  ]
]

pub without-length : (j : ℕ) (m : Sets) → j < length m.members → length (without j m).members < length m.members
without-length j m l =
    let a = length-append (take j m.members) (drop (suc j) m.members) in
    let b = length-take j m.members in
    let c = length-drop (suc j) m.members in
    omega arith

unlike : (a b : ℕ) → (a < b) ⊎ (b < a) → a ≢ b
unlike a b h e = elim h [ inl l ↦ absurd (omega arith) | inr l ↦ absurd (omega arith) ]

pub united-settles : (info : Info) (m : Sets) → IsCoherent info m → (a b : ℕ) → (a ≢ b → MayMerge info m a b) → Settles info m (united a b m)
united-settles info m coherent a b may = elim (cases_order a b) [
  | inl e ↦ rw (united-one a b m e) (settles-refl info m coherent)
  | inr n ↦ elim n [
    | inl l ↦ rw (united-low a b m l) (merged-settles info m coherent a b (may (unlike a b (inl l))))
    | inr l ↦ rw (united-high a b m l) (merged-settles info m coherent b a (may-turned info m a b (may (unlike a b (inr l)))))
  ]
]

pub united-number : (info : Info) (m : Sets) → IsCoherent info m → (a b : ℕ) → (a ≢ b → MayMerge info m a b) → became (united a b m).numbers a ≡ became (united a b m).numbers b
united-number info m coherent a b may = elim (cases_order a b) [
  | inl e ↦ ap (became (united a b m).numbers) e
  | inr n ↦ elim n [
    | inl l ↦ rw (united-low a b m l) (merged-number info m coherent a b (may (unlike a b (inl l))))
    | inr l ↦ rw (united-high a b m l) (sym (merged-number info m coherent b a (may-turned info m a b (may (unlike a b (inr l))))))
  ]
]

-- one turn of the cascade
pub joined-settles : (info : Info) (m : Sets) → IsCoherent info m → (i j : ℕ) (twice : IsTwice m.members i j)
    → Settles info m (without j (united twice.first.set twice.second.set m))
joined-settles info m coherent i j twice =
    let a = twice.first.set in
    let b = twice.second.set in
    elim (cases_order a b) [
      | inl e ↦ rw (united-one a b m e) (join-one info m coherent i j twice e)
      | inr n ↦ elim n [
        | inl l ↦ (
            let ne = unlike a b (inl l) in
            rw (united-low a b m l) (join-two info m coherent i j twice a b (twice-may info m coherent i j twice ne) (in_place-other a b a ne ∙ sym (in_place-gone a b))))
        | inr l ↦ (
            let ne = unlike a b (inr l) in
            rw (united-high a b m l)
            (join-two info m coherent i j twice b a (may-turned info m a b (twice-may info m coherent i j twice ne)) (in_place-gone b a ∙ sym (in_place-other b a b (λ e. ne (sym e))))))
      ]
    ]

-- two sets become one, and then others do
pub merge-all : (info : Info) (m new : Sets) (a b : ℕ) → IsCoherent info m → MayMerge info m a b
    → (IsCoherent info (united a b m) → Settles info (united a b m) new) → Settles info m new × (became new.numbers a ≡ became new.numbers b)
merge-all info m new a b coherent may then =
    let one = united-settles info m coherent a b (λ n. may) in
    let two = then one.coherent in
    (settles-trans info m (united a b m) new one two, number-on (united a b m) new two.keeps a b (united-number info m coherent a b (λ n. may)))
