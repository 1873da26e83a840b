-- `among` decides, and lists in which no firing stands twice.
use Rattle.std.proofs.Common.{◌≡◌, ℕ, ◌<◌, ◌≤◌, ◌⊎◌, inl, inr, Bool, true, false, List, [], ◌∷◌, ◌++◌, length, get_or, refl, sym, ◌∙◌, ap, subst, arith, cond}
use Rattle.std.specs.Prelude.{Contains, ◌==◌, ◌&&◌}
use Rattle.std.proofs.lemmas.Bool.{cases_lt}
use Rattle.std.proofs.lemmas.Bool.Decides.{Decides-eqb}
use Rattle.std.proofs.lemmas.List.{get_or_append_left, get_or_push, length_push}
use Rattle.std.proofs.lemmas.List.Elements.{Contains-append_right, Contains-append_cases, Contains-push_cases, Contains-get_or}
use Rattle.cal_value.proofs.TypeLemmas.{and-both}
use Rattle.cal_rel.specs.Tree.{Tree}
use Rattle.memo_model.specs.Same.{same_tree}
use Rattle.memo_model.proofs.TreeLemmas.{tree-true, tree-itself}
use Rattle.search_model.specs.Firings.{Firing}
use Rattle.search_model.specs.Search.{same_firing, among, IsOnce}

-- ---- lists

pub none : {A : Type 0} (x : A) → Contains [] x → ⊥
none x h = let l = h.1 in omega arith

-- one more at the head
pub contains-head : {A : Type 0} (x : A) (xs : List A) → Contains (x ∷ xs) x
contains-head x xs = (0, omega arith, refl)

pub contains-tail : {A : Type 0} (y : A) (xs : List A) (x : A) → Contains xs x → Contains (y ∷ xs) x
contains-tail y xs x h = Contains-append_right (y ∷ []) xs x h

pub cons-cases : {A : Type 0} (y : A) (xs : List A) (x : A) → Contains (y ∷ xs) x → (y ≡ x) ⊎ Contains xs x
cons-cases y xs x h = elim (Contains-append_cases (y ∷ []) xs x h) [
  | inl e ↦ elim (Contains-push_cases [] y x e) [ inl n ↦ absurd (none x n) | inr q ↦ inl q ]
  | inr e ↦ inr e
]

-- ---- firings that are the same

pub same-true : (f g : Firing) → same_firing f g ≡ true → f ≡ g
same-true f g h =
    let first = and-both (f.rule == g.rule && f.nth == g.nth && f.set == g.set) (same_tree f.binding g.binding) h in
    let second = and-both (f.rule == g.rule && f.nth == g.nth) (f.set == g.set) first.0 in
    let third = and-both (f.rule == g.rule) (f.nth == g.nth) second.0 in
    let r : f.rule ≡ g.rule = (Decides-eqb f.rule g.rule).0 third.0 in
    let n : f.nth ≡ g.nth = (Decides-eqb f.nth g.nth).0 third.1 in
    let s : f.set ≡ g.set = (Decides-eqb f.set g.set).0 second.1 in
    let t : f.binding ≡ g.binding = tree-true f.binding g.binding first.1 in
    ap (λ z. record { rule = z; nth = f.nth; binding = f.binding; set = f.set }) r
    ∙ ap (λ z. record { rule = g.rule; nth = z; binding = f.binding; set = f.set }) n
    ∙ ap (λ z. record { rule = g.rule; nth = g.nth; binding = f.binding; set = z }) s
    ∙ ap (λ z. record { rule = g.rule; nth = g.nth; binding = z; set = g.set }) t

and_true : (a b : Bool) → a ≡ true → b ≡ true → (a && b) ≡ true
and_true a b h k = rw (h, k) refl

pub same-itself : (f : Firing) → same_firing f f ≡ true
same-itself f =
    let r = (Decides-eqb f.rule f.rule).1 refl in
    let n = (Decides-eqb f.nth f.nth).1 refl in
    let s = (Decides-eqb f.set f.set).1 refl in
    and_true (f.rule == f.rule && f.nth == f.nth && f.set == f.set) (same_tree f.binding f.binding)
    (and_true (f.rule == f.rule && f.nth == f.nth) (f.set == f.set) (and_true (f.rule == f.rule) (f.nth == f.nth) r n) s) (tree-itself f.binding)

-- ---- among

among-step : (f g : Firing) (more : List Firing) (b : Bool) → same_firing g f ≡ b → (among f more ≡ true → Contains more f) → cond b true (among f more) ≡ true → Contains (g ∷ more) f
among-step f g more true e below h = subst (λ z. Contains (g ∷ more) z) (same-true g f e) (contains-head g more)
among-step f g more false e below h = contains-tail g more f (below h)

pub among-true : (f : Firing) (all : List Firing) → among f all ≡ true → Contains all f
among-true f [] h = absurd cc
among-true f (g ∷ more) h = among-step f g more (same_firing g f) refl (among-true f more) h

among-back : (f g : Firing) (more : List Firing) (b : Bool) → same_firing g f ≡ b → (among f more ≡ false → Contains more f → ⊥) → cond b true (among f more) ≡ false → Contains (g ∷ more) f → ⊥
among-back f g more true e below h at = absurd cc
among-back f g more false e below h at = elim (cons-cases g more f at) [
  | inl q ↦ (let same : same_firing g f ≡ true = subst (λ z. same_firing g z ≡ true) q (same-itself g) in absurd cc)
  | inr r ↦ below h r
]

pub among-false : (f : Firing) (all : List Firing) → among f all ≡ false → Contains all f → ⊥
among-false f [] h at = none f at
among-false f (g ∷ more) h at = among-back f g more (same_firing g f) refl (among-false f more) h at

-- ---- lists without repeats

pub once-none : IsOnce []
once-none = record { once = λ i j d l h e. absurd (omega arith) }

-- one more that isn't there yet
pub once-push : (all : List Firing) (f : Firing) → IsOnce all → (Contains all f → ⊥) → IsOnce (all ++ f ∷ [])
once-push all f is new = record { once = λ i j d l h e. both i j d l h e (cases_lt i (length all)) (cases_lt j (length all)) }
  where
    both : (i j : ℕ) (d : Firing) → i < length (all ++ f ∷ []) → j < length (all ++ f ∷ []) → get_or (all ++ f ∷ []) i d ≡ get_or (all ++ f ∷ []) j d
        → (i < length all) ⊎ (length all ≤ i) → (j < length all) ⊎ (length all ≤ j) → i ≡ j
    both i j d l h e (inl a) (inl b) =
        is.once i j d a b (sym (get_or_append_left all (f ∷ []) d i a) ∙ e ∙ get_or_append_left all (f ∷ []) d j b)
    both i j d l h e (inl a) (inr b) =
        let long = length_push all f in
        let at : length all ≡ j = omega arith in
        let same : get_or all i d ≡ f = sym (get_or_append_left all (f ∷ []) d i a) ∙ e ∙ get_or_push all f d j at in
        absurd (new (subst (λ z. Contains all z) same (Contains-get_or all i d a)))
    both i j d l h e (inr a) (inl b) =
        let long = length_push all f in
        let at : length all ≡ i = omega arith in
        let same : get_or all j d ≡ f = sym (get_or_append_left all (f ∷ []) d j b) ∙ sym e ∙ get_or_push all f d i at in
        absurd (new (subst (λ z. Contains all z) same (Contains-get_or all j d b)))
    both i j d l h e (inr a) (inr b) = let long = length_push all f in omega arith
