-- Each turn leaves less: a set is gone, or no firing became another and there is one more.
use Rattle.std.proofs.Common.{◌≡◌, ℕ, zero, suc, ◌+◌, ◌*◌, ◌-◌, ◌<◌, ◌≤◌, ◌⊎◌, inl, inr, Bool, true, false, List, [], ◌∷◌, ◌++◌, length, get_or, Some, None, refl, sym, ◌∙◌, ap, subst, arith, cond, append_assoc}
use Rattle.std.specs.Prelude.{Contains, Option, is_some, nat_lt}
use Rattle.std.proofs.Math.Nat.{mul-le-mul_left}
use Rattle.std.proofs.lemmas.Bool.{cases_lt}
use Rattle.std.proofs.lemmas.Bool.Decides.{nat_tests}
use Rattle.std.proofs.lemmas.List.{get_or_append_left, length_push}
use Rattle.std.proofs.lemmas.List.Elements.{Contains-push_cases}
use Rattle.cal_schema.specs.declared.rel_type.RelType.{RelType}
use Rattle.cal_rel.specs.Holes as trees
use Rattle.cal_rel.specs.Holes.{EachHole}
use Rattle.cal_rel.specs.Info.{Info, set_at}
use Rattle.cal_rel.specs.Tree.{Tree}
use Rattle.rule_hep.specs.Meaning.{Meaning}
use Rattle.memo_model.specs.declared.TheConstants.{MEMBER_LIMIT}
use Rattle.memo_model.specs.Sets.{Sets, became, IsThere}
use Rattle.memo_model.specs.Sound.{IsSound, MayRegister}
use Rattle.memo_model.specs.Relations.{Keeps}
use Rattle.memo_model.specs.Steps.{entered}
use Rattle.memo_model.proofs.EnteredLemmas.{entered-is}
use Rattle.memo_model.proofs.NumberLemmas.{there-below}
use Rattle.memo_model.proofs.TreeLemmas.{each-weaker, renumbered-itself}
use Rattle.search_model.specs.Firings.{Firing, renumbered}
use Rattle.search_model.specs.Search.{among, IsOnce, IsTriple, IsSearch, joined, gathered}
use Rattle.search_model.specs.Measure.{open_at, count_open, StaysGone, search_left}
use Rattle.search_model.proofs.AmongLemmas.{among-true, once-push, contains-head, contains-tail}
use Rattle.search_model.proofs.BindLemmas.{binds-there}
use Rattle.search_model.proofs.SearchLemmas.{firing-itself}

-- ---- counts

pub record IsFewer (n : ℕ) (a b : List (Option RelType)) : Type 0 where
  pub most : count_open n b ≤ count_open n a
  pub cases : (count_open n b < count_open n a) ⊎ ((k : ℕ) → k < n → open_at a k ≡ true → open_at b k ≡ true)

fewer-step : (n : ℕ) (a b : List (Option RelType)) (x y : Bool) → open_at a n ≡ x → open_at b n ≡ y → (x ≡ false → y ≡ false) → IsFewer n a b → IsFewer (suc n) a b
fewer-step n a b true true e f h below = record {
  most = let m = below.most in rw (e, f) (omega arith);
  cases = elim below.cases [
    | inl l ↦ inl (rw (e, f) (omega arith))
    | inr all ↦ inr (λ k l at. elim (cases_lt k n) [ inl s ↦ all k s at | inr g ↦ (let same : n ≡ k = omega arith in subst (λ j. open_at b j ≡ true) same f) ])
  ];
}
fewer-step n a b true false e f h below = record {
  most = let m = below.most in rw (e, f) (omega arith);
  cases = inl (let m = below.most in rw (e, f) (omega arith));
}
fewer-step n a b false y e f h below =
    let g : open_at b n ≡ false = f ∙ h refl in
    record {
      most = let m = below.most in rw (e, g) (omega arith);
      cases = elim below.cases [
        | inl l ↦ inl (rw (e, g) (omega arith))
        | inr all ↦ inr (λ k l at. elim (cases_lt k n) [
          | inl s ↦ all k s at
          | inr q ↦ (let same : k ≡ n = omega arith in let no : open_at a n ≡ true = subst (λ j. open_at a j ≡ true) same at in absurd cc)
        ])
      ];
    }

pub fewer : (n : ℕ) (a b : List (Option RelType)) → ((k : ℕ) → open_at a k ≡ false → open_at b k ≡ false) → IsFewer n a b
fewer zero a b h = record { most = omega arith; cases = inr (λ k l at. absurd (omega arith)) }
fewer (suc n) a b h = fewer-step n a b (open_at a n) (open_at b n) refl refl (h n) (fewer n a b h)

none_is : (o : Option RelType) → is_some o ≡ false → o ≡ None
none_is None h = refl
none_is (Some t) h = absurd cc

some_is : (o : Option RelType) → is_some o ≡ true → (t : RelType) × (o ≡ Some t)
some_is None h = absurd cc
some_is (Some t) h = (t, refl)

open-below : (types : List (Option RelType)) (k : ℕ) → k < length types → open_at types k ≡ is_some (set_at types k)
open-below types k l = let e : nat_lt k (length types) ≡ true = grind (arith, nat_tests) in rw e refl

open-past : (types : List (Option RelType)) (k : ℕ) → length types ≤ k → open_at types k ≡ true
open-past types k l = let e : nat_lt k (length types) ≡ false = grind (arith, nat_tests) in rw e refl

closed-stays : (a b : List (Option RelType)) → StaysGone a b → length a ≤ length b → (k : ℕ) → open_at a k ≡ false → open_at b k ≡ false
closed-stays a b h long k e = elim (cases_lt k (length a)) [
  | inl l ↦ (
      let none = none_is (set_at a k) (sym (open-below a k l) ∙ e) in
      open-below b k (omega arith) ∙ ap is_some (h.gone k l none))
  | inr g ↦ (let o = open-past a k g in absurd cc)
]

-- ---- where no set is gone, firings are gathered as they are

fixed_cond : (b : Bool) (all : List Firing) (f : Firing) → b ≡ false → cond b all (all ++ f ∷ []) ≡ all ++ f ∷ []
fixed_cond true all f e = absurd cc
fixed_cond false all f e = refl

pub joined-new : (all : List Firing) (f : Firing) → among f all ≡ false → joined all f ≡ all ++ f ∷ []
joined-new all f e = fixed_cond (among f all) all f e

not_yet : (b : Bool) (all more : List Firing) (f : Firing) → among f all ≡ b → IsOnce (all ++ f ∷ more) → b ≡ false
not_yet false all more f e h = refl
not_yet true all more f e h =
    let at = among-true f all e in
    let first = get_or_append_left all (f ∷ more) f at.0 at.1 ∙ at.2 in
    let second : get_or (all ++ f ∷ more) (length all) f ≡ f = here all in
    let long = longer all in
    let l = at.1 in
    let same : at.0 ≡ length all = h.once at.0 (length all) f (omega arith) (omega arith) (first ∙ sym second) in
    absurd (omega arith)
  where
    here : (xs : List Firing) → get_or (xs ++ f ∷ more) (length xs) f ≡ f
    here [] = refl
    here (x ∷ xs) = here xs

    longer : (xs : List Firing) → length xs < length (xs ++ f ∷ more)
    longer [] = omega arith
    longer (x ∷ xs) = let l = longer xs in omega arith

pub gathered-same : (m : ℕ → ℕ) (all firings : List Firing) → IsOnce (all ++ firings) → ((g : Firing) → Contains firings g → renumbered m g ≡ g) → gathered m all firings ≡ all ++ firings
gathered-same m all [] once fixed = end all
  where
    end : (xs : List Firing) → xs ≡ xs ++ []
    end [] = refl
    end (x ∷ xs) = ap (λ ys. x ∷ ys) (end xs)
gathered-same m all (f ∷ more) once fixed =
    let head = fixed f (contains-head f more) in
    let step : joined all (renumbered m f) ≡ all ++ f ∷ [] = ap (joined all) head ∙ joined-new all f (not_yet (among f all) all more f refl once) in
    let assoc : (all ++ f ∷ []) ++ more ≡ all ++ f ∷ more = append_assoc all (f ∷ []) more in
    let on : IsOnce ((all ++ f ∷ []) ++ more) = subst IsOnce (sym assoc) once in
    ap (λ xs. gathered m xs more) step ∙ gathered-same m (all ++ f ∷ []) more on (λ g h. fixed g (contains-tail f more g h)) ∙ assoc

-- a set that is there has its number while a tree is entered
pub entered-stays : (info : Info) (m : Sets) → IsSound info m → (s : ℕ) (x : Tree) → MayRegister info m x s → (k : ℕ) → IsThere m.types k
    → became (entered info (Some s) x m).sets.numbers k ≡ k
entered-stays info m sound s x may k there =
    (entered-is info x (Some s) m may.own sound.coherent may.typed may.stand).extends.numbers k ∙ sound.coherent.stays k there

firing-stays : (a : Sets) (m : ℕ → ℕ) → ((k : ℕ) → IsThere a.types k → m k ≡ k) → (g : Firing) → IsThere a.types g.set × EachHole (IsThere a.types) g.binding → renumbered m g ≡ g
firing-stays a m h g there =
    firing-itself m g (h g.set there.0) (renumbered-itself m g.binding (each-weaker (IsThere a.types) (λ k. m k ≡ k) h g.binding there.1))

module _ (info : Info) (rules : List Meaning) (budget : ℕ) (a : Sets) (firings : List Firing) (f : Firing) (search : IsSearch info rules budget a firings)
    (is : IsTriple info rules a.members f) (new : Contains firings f → ⊥) where
  one-stays : (m : ℕ → ℕ) → ((k : ℕ) → IsThere a.types k → m k ≡ k) → (g : Firing) → Contains firings g ⊎ (f ≡ g) → renumbered m g ≡ g
  one-stays m h g (inl e) =
      let fired = search.fired g e in
      firing-stays a m h g (binds-there info a search.sound.coherent fired.law.reach g.set g.binding fired.binds)
  one-stays m h g (inr e) = subst (λ z. renumbered m z ≡ z) e (firing-stays a m h f (binds-there info a search.sound.coherent is.law.reach f.set f.binding is.binds))

  pub gathered-stays : (m : ℕ → ℕ) → ((k : ℕ) → IsThere a.types k → m k ≡ k) → gathered m [] (firings ++ f ∷ []) ≡ firings ++ f ∷ []
  gathered-stays m h = gathered-same m [] (firings ++ f ∷ []) (once-push firings f search.once new) (λ g e. one-stays m h g (Contains-push_cases firings f g e))

-- ---- less is left

falls-gone : (x y budget p q : ℕ) → x < y → p ≤ budget → x * (budget + 1) + p < y * (budget + 1) + q
falls-gone x y budget p q l m = let h : x + 1 ≤ y = omega arith in omega (arith, mul-le-mul_left (budget + 1) h)

falls-more : (x y budget p q : ℕ) → x ≤ y → p < q → x * (budget + 1) + p < y * (budget + 1) + q
falls-more x y budget p q h m = omega (arith, mul-le-mul_left (budget + 1) h)

left-most : (budget n : ℕ) → budget - n ≤ budget
left-most budget n = omega arith

left-less : (budget n m : ℕ) → m ≡ n + 1 → n < budget → budget - m < budget - n
left-less budget n m e l = omega arith

-- sets that are gone count more than all firings
pub fewer-sets : (budget : ℕ) (a b : Sets) (before after : List Firing) → count_open MEMBER_LIMIT b.types < count_open MEMBER_LIMIT a.types → search_left budget b after < search_left budget a before
unfolding search_left
fewer-sets budget a b before after l =
    falls-gone (count_open MEMBER_LIMIT b.types) (count_open MEMBER_LIMIT a.types) budget (budget - length after) (budget - length before) l (left-most budget (length after))

pub one-more : (budget : ℕ) (a b : Sets) (before after : List Firing) → count_open MEMBER_LIMIT b.types ≤ count_open MEMBER_LIMIT a.types → length after ≡ length before + 1
    → length before < budget → search_left budget b after < search_left budget a before
unfolding search_left
one-more budget a b before after l long few =
    falls-more (count_open MEMBER_LIMIT b.types) (count_open MEMBER_LIMIT a.types) budget (budget - length after) (budget - length before) l
    (left-less budget (length before) (length after) long few)

module _ (info : Info) (a b : Sets) (sound : IsSound info a) (after_sound : IsSound info b) (keeps : Keeps a b) where
  gone : StaysGone a.types b.types
  gone = record { gone = λ k l e. let n = sound.coherent.number_count in keeps.gone k (omega arith) e }

  longer-types : length a.types ≤ length b.types
  longer-types = let l = keeps.longer in let m = sound.coherent.number_count in let n = after_sound.coherent.number_count in omega arith

  -- a set that is there and isn't gone afterwards has its number
  number-stays : (n : ℕ) → b.added ≤ n → ((k : ℕ) → k < n → open_at a.types k ≡ true → open_at b.types k ≡ true) → (k : ℕ) → IsThere a.types k → became b.numbers k ≡ k
  number-stays n room all k there =
      let l = there-below a.types k there in
      let long = longer-types in
      let made = after_sound.coherent.made in
      let was : open_at a.types k ≡ true = open-below a.types k l ∙ ap is_some there.is in
      let is = sym (open-below b.types k (omega arith)) ∙ all k (omega arith) was in
      let some = some_is (set_at b.types k) is in
      after_sound.coherent.stays k (record { found = some.0; is = some.1 })

  -- a turn that registers the image of a triple leaves less
  pub turn-falls : (rules : List Meaning) (budget : ℕ) (firings : List Firing) (f : Firing) → IsSearch info rules budget a firings → IsTriple info rules a.members f
      → (Contains firings f → ⊥) → length firings < budget → (after : List Firing) → after ≡ gathered (became b.numbers) [] (firings ++ f ∷ [])
      → search_left budget b after < search_left budget a firings
  turn-falls rules budget firings f search is new few after e =
      let count = fewer MEMBER_LIMIT a.types b.types (closed-stays a.types b.types gone longer-types) in
      elim count.cases [
        | inl l ↦ fewer-sets budget a b firings after l
        | inr all ↦ (
            let same : after ≡ firings ++ f ∷ [] = e ∙ gathered-stays info rules budget a firings f search is new (became b.numbers) (number-stays MEMBER_LIMIT after_sound.full all) in
            let long : length after ≡ length firings + 1 = ap length same ∙ length_push firings f in
            one-more budget a b firings after count.most long few)
      ]
