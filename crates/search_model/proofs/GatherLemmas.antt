-- What is gathered, and that a firing keeps what holds at each turn.
use Rattle.std.proofs.Common.{◌≡◌, ℕ, ◌+◌, ◌<◌, ◌≤◌, ◌⊎◌, inl, inr, Bool, true, false, List, [], ◌∷◌, ◌++◌, length, Some, refl, sym, subst, arith, cond}
use Rattle.std.specs.Prelude.{Contains}
use Rattle.std.proofs.lemmas.List.{length_push}
use Rattle.std.proofs.lemmas.List.Elements.{Contains-append_left, Contains-push, Contains-push_cases}
use Rattle.cal_schema.specs.declared.rel_type.RelType.{RelType}
use Rattle.cal_rel.specs.Info.{Info}
use Rattle.cal_rel.specs.Tree.{Tree}
use Rattle.rule_hep.specs.Meaning.{Meaning}
use Rattle.memo_model.specs.Sets.{Sets, became}
use Rattle.memo_model.specs.Sound.{over}
use Rattle.memo_model.specs.Relations.{Registers}
use Rattle.search_model.specs.Firings.{Firing, renumbered, IsFired}
use Rattle.search_model.specs.Search.{among, IsOnce, IsTriple, IsSearch, joined, gathered}
use Rattle.search_model.proofs.SearchLemmas.{fired-new, fired-kept}
use Rattle.search_model.proofs.AmongLemmas.{none, among-true, among-false, once-none, once-push, contains-head, contains-tail, cons-cases}

-- ---- one more

from_cond : (b : Bool) (all : List Firing) (f x : Firing) → Contains (cond b all (all ++ f ∷ [])) x → Contains all x ⊎ (f ≡ x)
from_cond true all f x h = inl h
from_cond false all f x h = Contains-push_cases all f x h

joined-from : (all : List Firing) (f x : Firing) → Contains (joined all f) x → Contains all x ⊎ (f ≡ x)
joined-from all f x h = from_cond (among f all) all f x h

old_cond : (b : Bool) (all : List Firing) (f x : Firing) → Contains all x → Contains (cond b all (all ++ f ∷ [])) x
old_cond true all f x h = h
old_cond false all f x h = Contains-append_left all (f ∷ []) x h

new_cond : (b : Bool) (all : List Firing) (f : Firing) → among f all ≡ b → Contains (cond b all (all ++ f ∷ [])) f
new_cond true all f e = among-true f all e
new_cond false all f e = Contains-push all f

once_cond : (b : Bool) (all : List Firing) (f : Firing) → among f all ≡ b → IsOnce all → IsOnce (cond b all (all ++ f ∷ []))
once_cond true all f e h = h
once_cond false all f e h = once-push all f h (among-false f all e)

few_cond : (b : Bool) (all : List Firing) (f : Firing) → length (cond b all (all ++ f ∷ [])) ≤ length all + 1
few_cond true all f = omega arith
few_cond false all f = let e = length_push all f in omega arith

-- ---- all

pub record IsGathered (m : ℕ → ℕ) (firings : List Firing) (x : Firing) : Type 0 where
  pub from : Firing
  pub there : Contains firings from
  pub is : x ≡ renumbered m from

pub gathered-from : (m : ℕ → ℕ) (all firings : List Firing) (x : Firing) → Contains (gathered m all firings) x → Contains all x ⊎ IsGathered m firings x
gathered-from m all [] x h = inl h
gathered-from m all (f ∷ more) x h = elim (gathered-from m (joined all (renumbered m f)) more x h) [
  | inl e ↦ elim (joined-from all (renumbered m f) x e) [
    | inl q ↦ inl q
    | inr q ↦ inr (record { from = f; there = contains-head f more; is = sym q })
  ]
  | inr e ↦ inr (record { from = e.from; there = contains-tail f more e.from e.there; is = e.is })
]

-- what was gathered so far stays
gathered-old : (m : ℕ → ℕ) (all firings : List Firing) (x : Firing) → Contains all x → Contains (gathered m all firings) x
gathered-old m all [] x h = h
gathered-old m all (f ∷ more) x h =
    gathered-old m (joined all (renumbered m f)) more x (old_cond (among (renumbered m f) all) all (renumbered m f) x h)

-- each firing is gathered
pub gathered-has : (m : ℕ → ℕ) (all firings : List Firing) (x : Firing) → Contains firings x → Contains (gathered m all firings) (renumbered m x)
gathered-has m all [] x h = absurd (none x h)
gathered-has m all (f ∷ more) x h = elim (cons-cases f more x h) [
  | inl e ↦ (
      let new = new_cond (among (renumbered m f) all) all (renumbered m f) refl in
      let there = gathered-old m (joined all (renumbered m f)) more (renumbered m f) new in
      subst (λ z. Contains (gathered m all (f ∷ more)) (renumbered m z)) e there)
  | inr e ↦ gathered-has m (joined all (renumbered m f)) more x e
]

pub gathered-once : (m : ℕ → ℕ) (all firings : List Firing) → IsOnce all → IsOnce (gathered m all firings)
gathered-once m all [] h = h
gathered-once m all (f ∷ more) h = gathered-once m (joined all (renumbered m f)) more (once_cond (among (renumbered m f) all) all (renumbered m f) refl h)

pub gathered-few : (m : ℕ → ℕ) (all firings : List Firing) → length (gathered m all firings) ≤ length all + length firings
gathered-few m all [] = omega arith
gathered-few m all (f ∷ more) =
    let below = gathered-few m (joined all (renumbered m f)) more in
    let one = few_cond (among (renumbered m f) all) all (renumbered m f) in
    omega arith

-- ---- a turn that registers the image of a triple

pub fire-search : (info : Info) (rules : List Meaning) (budget : ℕ) (a mid b : Sets) (firings : List Firing) (f : Firing) (out : Tree) (t : RelType)
    → IsSearch info rules budget a firings → length firings < budget → (is : IsTriple info rules a.members f) → is.law.image (over info a.types) f.binding f.nth ≡ Some out
    → Registers info a mid b out t f.set → IsSearch info rules budget b (gathered (became b.numbers) [] (firings ++ f ∷ []))
fire-search info rules budget a mid b firings f out t search room is image did = record {
  sound = did.sound;
  fired = λ x h. elim (gathered-from (became b.numbers) [] (firings ++ f ∷ []) x h) [
    | inl e ↦ absurd (none x e)
    | inr e ↦ subst (IsFired info rules b) (sym e.is) (one e.from (Contains-push_cases firings f e.from e.there))
  ];
  once = gathered-once (became b.numbers) [] (firings ++ f ∷ []) once-none;
  few =
      let long = gathered-few (became b.numbers) [] (firings ++ f ∷ []) in
      let more = length_push firings f in
      omega arith;
}
  where
    new : IsFired info rules b (renumbered (became b.numbers) f)
    new = fired-new info rules a mid b search.sound.coherent.valid f is out t image did

    one : (g : Firing) → Contains firings g ⊎ (f ≡ g) → IsFired info rules b (renumbered (became b.numbers) g)
    one g (inl h) = fired-kept info rules a b search.sound.coherent.valid did.keeps g (search.fired g h)
    one g (inr h) = subst (λ z. IsFired info rules b (renumbered (became b.numbers) z)) h new
