-- What has grown from trees goes on to have: at a turn that registers an image, each new member comes from it, and no firing gets behind
-- a later one.
use Rattle.std.proofs.Common.{◌≡◌, ℕ, ◌+◌, ◌<◌, ◌≤◌, ◌⊎◌, inl, inr, Bool, true, false, List, [], ◌∷◌, ◌++◌, length, Some, refl, sym, ◌∙◌, ap, subst, arith, cond, append_assoc}
use Rattle.std.specs.Prelude.{Contains, slice_get}
use Rattle.std.proofs.lemmas.Bool.{cases_lt}
use Rattle.std.proofs.lemmas.List.{length_push, length-append}
use Rattle.std.proofs.lemmas.List.Elements.{Contains-append_left, Contains-push}
use Rattle.std.proofs.lemmas.Option.{same_Some}
use Rattle.cal_schema.specs.declared.rel_type.RelType.{RelType}
use Rattle.cal_schema.specs.Valid.{IsValidSchema}
use Rattle.cal_rel.specs.Holes as trees
use Rattle.cal_rel.specs.Holes.{EachHole}
use Rattle.cal_rel.specs.Info.{Info}
use Rattle.cal_rel.specs.Tree.{Tree}
use Rattle.rule_hep.specs.Meaning.{Meaning}
use Rattle.memo_model.specs.Sets.{Sets, became, Has}
use Rattle.memo_model.specs.Sound.{over}
use Rattle.memo_model.specs.Relations.{Keeps, IsOld, ComesFrom, Registers}
use Rattle.memo_model.proofs.RegisterLemmas.{comes-kept}
use Rattle.memo_model.proofs.TreeLemmas.{each-weaker, renumbered-itself}
use Rattle.search_model.specs.Bindings.{BindsBy}
use Rattle.search_model.specs.Firings.{Firing, renumbered}
use Rattle.search_model.specs.Search.{among, IsTriple, joined, gathered}
use Rattle.search_model.specs.Grown.{IsOfTree, IsOfFiring, HasSource, HaveNoHoles, IsGrown, StaysGrown}
use Rattle.search_model.proofs.BindLemmas.{binds-on, binds-weaker}
use Rattle.search_model.proofs.GatherLemmas.{gathered-has}
use Rattle.search_model.proofs.SearchLemmas.{image-kept}

-- ---- lists

same_head : {A : Type 0} (x y : A) (xs ys : List A) → x ∷ xs ≡ y ∷ ys → x ≡ y
same_head x y xs ys e = cc

same_tail : {A : Type 0} (x y : A) (xs ys : List A) → x ∷ xs ≡ y ∷ ys → xs ≡ ys
same_tail x y xs ys e = cc

not-empty : {A : Type 0} (xs : List A) (y : A) (zs : List A) → [] ≡ xs ++ y ∷ zs → ⊥
not-empty [] y zs e = absurd cc
not-empty (x ∷ xs) y zs e = absurd cc

-- a list with one more at its end, split at an element: that is the last one, or the split is one of the list
pub record IsInside {A : Type 0} (xs ys : List A) (y : A) : Type 0 where
  pub rest : List A
  pub is : xs ≡ ys ++ (y ∷ rest)

push-split : {A : Type 0} (xs : List A) (x : A) (ys : List A) (y : A) (zs : List A) → xs ++ x ∷ [] ≡ ys ++ (y ∷ zs) → ((xs ≡ ys) × (x ≡ y)) ⊎ IsInside xs ys y
push-split [] x [] y zs e = inl (refl, same_head x y [] zs e)
push-split [] x (w ∷ ys) y zs e = absurd (not-empty ys y zs (same_tail x w [] (ys ++ (y ∷ zs)) e))
push-split (v ∷ xs) x [] y zs e = inr (record { rest = xs; is = ap (λ z. z ∷ xs) (same_head v y (xs ++ x ∷ []) zs e) })
push-split (v ∷ xs) x (w ∷ ys) y zs e =
    let h : v ≡ w = same_head v w (xs ++ x ∷ []) (ys ++ (y ∷ zs)) e in
    elim (push-split xs x ys y zs (same_tail v w (xs ++ x ∷ []) (ys ++ (y ∷ zs)) e)) [
      | inl q ↦ inl ((let t = q.0 in cc), q.1)
      | inr q ↦ inr (record { rest = q.rest; is = (let t = q.is in cc) })
    ]

-- lists that agree, split at the same place
same-split : {A : Type 0} (xs ys : List A) (x y : A) (us vs : List A) → length xs ≡ length ys → xs ++ (x ∷ us) ≡ ys ++ (y ∷ vs) → (xs ≡ ys) × (x ≡ y)
same-split [] [] x y us vs l e = (refl, same_head x y us vs e)
same-split [] (w ∷ ys) x y us vs l e = absurd (omega arith)
same-split (v ∷ xs) [] x y us vs l e = absurd (omega arith)
same-split (v ∷ xs) (w ∷ ys) x y us vs l e =
    let h : v ≡ w = same_head v w (xs ++ (x ∷ us)) (ys ++ (y ∷ vs)) e in
    let rest = same-split xs ys x y us vs (let n = l in omega arith) (same_tail v w (xs ++ (x ∷ us)) (ys ++ (y ∷ vs)) e) in
    ((let t = rest.0 in cc), rest.1)

-- ---- what is gathered before a firing

-- a firing among those that are gathered, by where it comes from
pub record IsGatheredFrom (m : ℕ → ℕ) (all firings before : List Firing) (g : Firing) : Type 0 where
  pub first : List Firing
  pub from : Firing
  pub rest : List Firing
  pub split : firings ≡ first ++ (from ∷ rest)
  pub before_is : before ≡ gathered m all first
  pub is : g ≡ renumbered m from

pub record Extends (all more : List Firing) : Type 0 where
  pub rest : List Firing
  pub is : more ≡ all ++ rest

extends-itself : (all : List Firing) → Extends all all
extends-itself all = record { rest = []; is = end all }
  where
    end : (xs : List Firing) → xs ≡ xs ++ []
    end [] = refl
    end (x ∷ xs) = ap (λ ys. x ∷ ys) (end xs)

extends_cond : (b : Bool) (all : List Firing) (f : Firing) → Extends all (cond b all (all ++ f ∷ []))
extends_cond true all f = extends-itself all
extends_cond false all f = record { rest = f ∷ []; is = refl }

gathered-extends : (m : ℕ → ℕ) (all firings : List Firing) → Extends all (gathered m all firings)
gathered-extends m all [] = extends-itself all
gathered-extends m all (f ∷ more) =
    let one = extends_cond (among (renumbered m f) all) all (renumbered m f) in
    let on = gathered-extends m (joined all (renumbered m f)) more in
    record { rest = one.rest ++ on.rest; is = on.is ∙ ap (λ xs. xs ++ on.rest) one.is ∙ append_assoc all one.rest on.rest }

-- where one more makes the list longer than `n`, it was pushed
pushed_cond : (b : Bool) (all : List Firing) (f : Firing) (n : ℕ) → length all ≤ n → n < length (cond b all (all ++ f ∷ [])) → (cond b all (all ++ f ∷ []) ≡ all ++ f ∷ []) × (length all ≡ n)
pushed_cond true all f n l h = absurd (omega arith)
pushed_cond false all f n l h = let e = length_push all f in (refl, omega arith)

pub gathered-split : (m : ℕ → ℕ) (all firings before : List Firing) (g : Firing) (after : List Firing) → length all ≤ length before → gathered m all firings ≡ before ++ (g ∷ after)
    → IsGatheredFrom m all firings before g
gathered-split m all [] before g after l e =
    let long = ap length e ∙ length-append before (g ∷ after) in
    absurd (omega arith)
gathered-split m all (f ∷ more) before g after l e =
    let next = joined all (renumbered m f) in
    elim (cases_lt (length before) (length next)) [
      | inl pushed ↦ (
          let at = pushed_cond (among (renumbered m f) all) all (renumbered m f) (length before) l pushed in
          let on = gathered-extends m next more in
          let whole : all ++ (renumbered m f ∷ on.rest) ≡ before ++ (g ∷ after) =
          sym (append_assoc all (renumbered m f ∷ []) on.rest) ∙ ap (λ xs. xs ++ on.rest) (sym at.0) ∙ sym on.is ∙ e in
          let same = same-split all before (renumbered m f) g on.rest after at.1 whole in
          record { first = []; from = f; rest = more; split = refl; before_is = sym same.0; is = sym same.1 })
      | inr later ↦ (
          let below = gathered-split m next more before g after later e in
          record { first = f ∷ below.first; from = below.from; rest = below.rest; split = ap (λ xs. f ∷ xs) below.split; before_is = below.before_is; is = below.is })
    ]

-- ---- sources

more-firings : (info : Info) (rules : List Meaning) (trees : List Tree) (m : Sets) (few many : List Firing) → ((f : Firing) → Contains few f → Contains many f) → (s : ℕ) (node : Tree)
    → HasSource info rules trees m few s node → HasSource info rules trees m many s node
more-firings info rules trees m few many h s node (inl e) = inl e
more-firings info rules trees m few many h s node (inr e) =
    inr (record { firing = e.firing; among = h e.firing e.among; law = e.law; rule = e.rule; out = e.out; image = e.image; comes = e.comes })

module _ (info : Info) (rules : List Meaning) (from : List Tree) (whole : HaveNoHoles from) (a b : Sets) (valid : IsValidSchema info.schema) (keeps : Keeps a b) where
  source-kept : (firings : List Firing) (s : ℕ) (node : Tree) → HasSource info rules from a firings s node
      → HasSource info rules from b (gathered (became b.numbers) [] firings) (became b.numbers s) (trees.renumbered (became b.numbers) node)
  source-kept firings s node (inl e) =
      let itself : trees.renumbered (became b.numbers) e.tree ≡ e.tree =
      renumbered-itself (became b.numbers) e.tree (each-weaker (λ k. ⊥) (λ k. became b.numbers k ≡ k) (λ k none. absurd none) e.tree (whole.none e.tree e.among)) in
      let kept = comes-kept a b keeps e.tree s node e.comes in
      inl (record { tree = e.tree; among = e.among; comes = subst (λ z. ComesFrom b.members z (became b.numbers s) (trees.renumbered (became b.numbers) node)) itself kept })
  source-kept firings s node (inr e) = inr (record {
    firing = renumbered (became b.numbers) e.firing;
    among = gathered-has (became b.numbers) [] firings e.firing e.among;
    law = e.law;
    rule = e.rule;
    out = trees.renumbered (became b.numbers) e.out;
    image = image-kept info a b valid keeps e.law e.firing.binding e.out e.firing.nth e.image;
    comes = comes-kept a b keeps e.out s node e.comes;
  })

  module _ (firings : List Firing) (f : Firing) (grown : IsGrown info rules from a firings) (is : IsTriple info rules a.members f) where
    -- with the triple at the end
    earlier-push : (before after : List Firing) (g : Firing) (law : Meaning) → firings ++ f ∷ [] ≡ before ++ (g ∷ after) → slice_get rules g.rule ≡ Some law
        → BindsBy (HasSource info rules from a before) law.reach g.set g.binding
    earlier-push before after g law e rule = elim (push-split firings f before g after e) [
      | inl q ↦ (
          let same : f ≡ g = q.1 in
          let own : slice_get rules f.rule ≡ Some law = subst (λ (z : Firing). slice_get rules z.rule ≡ Some law) (sym same) rule in
          let law_is : is.law ≡ law = same_Some is.law law (sym is.rule ∙ own) in
          let here = binds-weaker (Has a.members) (HasSource info rules from a firings) grown.members is.law.reach f.set f.binding is.binds in
          let first : BindsBy (HasSource info rules from a firings) law.reach f.set f.binding =
          subst (λ (z : Meaning). BindsBy (HasSource info rules from a firings) z.reach f.set f.binding) law_is here in
          let second : BindsBy (HasSource info rules from a before) law.reach f.set f.binding =
          subst (λ xs. BindsBy (HasSource info rules from a xs) law.reach f.set f.binding) q.0 first in
          subst (λ (z : Firing). BindsBy (HasSource info rules from a before) law.reach z.set z.binding) same second)
      | inr q ↦ grown.earlier before q.rest g law q.is rule
    ]

    earlier-kept : (before after : List Firing) (g : Firing) (law : Meaning) → gathered (became b.numbers) [] (firings ++ f ∷ []) ≡ before ++ (g ∷ after)
        → slice_get rules g.rule ≡ Some law → BindsBy (HasSource info rules from b before) law.reach g.set g.binding
    earlier-kept before after g law e rule =
        let at = gathered-split (became b.numbers) [] (firings ++ f ∷ []) before g after (omega arith) e in
        let own : slice_get rules at.from.rule ≡ Some law = subst (λ (z : Firing). slice_get rules z.rule ≡ Some law) at.is rule in
        let was = earlier-push at.first at.rest at.from law at.split own in
        let now = binds-on (HasSource info rules from a at.first) (HasSource info rules from b (gathered (became b.numbers) [] at.first)) (became b.numbers) (source-kept at.first)
        law.reach at.from.set at.from.binding was in
        let first : BindsBy (HasSource info rules from b before) law.reach (became b.numbers at.from.set) (trees.renumbered (became b.numbers) at.from.binding) =
        subst (λ xs. BindsBy (HasSource info rules from b xs) law.reach (became b.numbers at.from.set) (trees.renumbered (became b.numbers) at.from.binding)) (sym at.before_is) now in
        subst (λ (z : Firing). BindsBy (HasSource info rules from b before) law.reach z.set z.binding) (sym at.is) first

    -- a turn that registers the image of a triple
    pub turn-grown : (mid : Sets) (out : Tree) (t : RelType) → is.law.image (over info a.types) f.binding f.nth ≡ Some out → Registers info a mid b out t f.set
        → IsGrown info rules from b (gathered (became b.numbers) [] (firings ++ f ∷ []))
    turn-grown mid out t image did = record {
      members = λ s node has. one s node (did.members s node has);
      earlier = earlier-kept;
    }
      where
        all : List Firing
        all = firings ++ f ∷ []

        old : (s : ℕ) (node : Tree) → Has a.members s node
            → HasSource info rules from b (gathered (became b.numbers) [] all) (became b.numbers s) (trees.renumbered (became b.numbers) node)
        old s node has =
            source-kept all s node (more-firings info rules from a firings all (λ g h. Contains-append_left firings (f ∷ []) g h) s node (grown.members s node has))

        one : (s : ℕ) (node : Tree) → IsOld a b s node ⊎ ComesFrom b.members (trees.renumbered (became b.numbers) out) s node
            → HasSource info rules from b (gathered (became b.numbers) [] all) s node
        one s node (inl e) =
            let first : HasSource info rules from b (gathered (became b.numbers) [] all) s (trees.renumbered (became b.numbers) e.tree) =
            subst (λ k. HasSource info rules from b (gathered (became b.numbers) [] all) k (trees.renumbered (became b.numbers) e.tree)) (sym e.set_is) (old e.set e.tree e.has) in
            subst (λ z. HasSource info rules from b (gathered (became b.numbers) [] all) s z) (sym e.tree_is) first
        one s node (inr e) = inr (record {
          firing = renumbered (became b.numbers) f;
          among = gathered-has (became b.numbers) [] all f (Contains-push firings f);
          law = is.law;
          rule = is.rule;
          out = trees.renumbered (became b.numbers) out;
          image = image-kept info a b valid keeps is.law f.binding out f.nth image;
          comes = e;
        })
