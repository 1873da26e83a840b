-- Each binding is listed of a member.
use Rattle.std.proofs.Common.{◌≡◌, ℕ, ◌⊎◌, inl, inr, Bool, true, false, List, [], ◌∷◌, ◌++◌, map, length, refl, sym, ◌∙◌, ap, subst, arith, cond}
use Rattle.std.specs.Prelude.{Contains, ◌==◌}
use Rattle.std.specs.List.{flat_map}
use Rattle.std.proofs.lemmas.Bool.Decides.{Decides-eqb}
use Rattle.std.proofs.lemmas.List.Elements.{Contains-append_left, Contains-append_right, Contains-append_cases, Contains-push_cases, Contains-push}
use Rattle.cal_rel.specs.Tree.{Tree, leaf, unary, binary, hole}
use Rattle.rule_hep.specs.declared.rule.Reach.{Reach}
use Rattle.rule_hep.specs.declared.rule.Reach.TheVariants.{Node, FirstChild, BothChildren, Chain}
use Rattle.memo_model.specs.Sets.{Member, Has}
use Rattle.memo_model.proofs.ListLemmas.{contains-map}
use Rattle.search_model.specs.Bindings.{BindsFirst, BindsBoth, BindsChain, Binds}
use Rattle.search_model.proofs.AmongLemmas.{none, contains-head, contains-tail, cons-cases}
use Rattle.search_model.specs.Listed.{in_set, Nodes, inputs, firsts, boths, chains, bindings}

-- ---- lists

pub contains-flat_map : {A B : Type 0} (f : A → List B) (xs : List A) (x : A) (y : B) → Contains xs x → Contains (f x) y → Contains (flat_map f xs) y
contains-flat_map f [] x y h g = absurd (none x h)
contains-flat_map f (z ∷ xs) x y h g = elim (cons-cases z xs x h) [
  | inl e ↦ Contains-append_left (f z) (flat_map f xs) y (subst (λ w. Contains (f w) y) (sym e) g)
  | inr e ↦ Contains-append_right (f z) (flat_map f xs) y (contains-flat_map f xs x y e g)
]

pub contains-flat_map_back : {A B : Type 0} (f : A → List B) (xs : List A) (y : B) → Contains (flat_map f xs) y → (x : A) × Contains xs x × Contains (f x) y
contains-flat_map_back f [] y h = absurd (none y h)
contains-flat_map_back f (z ∷ xs) y h = elim (Contains-append_cases (f z) (flat_map f xs) y h) [
  | inl e ↦ (z, contains-head z xs, e)
  | inr e ↦ (let r = contains-flat_map_back f xs y e in (r.0, contains-tail z xs r.0 r.1, r.2))
]

-- ---- the nodes of a set

set-step : (m : Member) (more : List Member) (k : ℕ) (t : Tree) (b : Bool) → (m.set == k) ≡ b → (Contains (in_set more k) t → Has more k t)
    → Contains (cond b (m.tree ∷ in_set more k) (in_set more k)) t → Has (m ∷ more) k t
set-step m more k t true e below h = elim (cons-cases m.tree (in_set more k) t h) [
  | inl q ↦ (
      let s : m.set ≡ k = (Decides-eqb m.set k).0 e in
      let same : m ≡ record { set = k; tree = t } = ap (λ (z : ℕ). record { set = z; tree = m.tree }) s ∙ ap (λ (z : Tree). record { set = k; tree = z }) q in
      record { at = subst (λ z. Contains (m ∷ more) z) same (contains-head m more) })
  | inr r ↦ record { at = contains-tail m more (record { set = k; tree = t }) (below r).at }
]
set-step m more k t false e below h = record { at = contains-tail m more (record { set = k; tree = t }) (below h).at }

pub in_set-has : (members : List Member) (k : ℕ) (t : Tree) → Contains (in_set members k) t → Has members k t
in_set-has [] k t h = absurd (none t h)
in_set-has (m ∷ more) k t h = set-step m more k t (m.set == k) refl (in_set-has more k t) h

set-back : (m : Member) (more : List Member) (k : ℕ) (t : Tree) (b : Bool) → (m.set == k) ≡ b → (Has more k t → Contains (in_set more k) t)
    → (m ≡ record { set = k; tree = t }) ⊎ Contains more (record { set = k; tree = t }) → Contains (cond b (m.tree ∷ in_set more k) (in_set more k)) t
set-back m more k t true e below (inl q) =
    subst (λ z. Contains (m.tree ∷ in_set more k) z) (ap (λ (z : Member). z.tree) q) (contains-head m.tree (in_set more k))
set-back m more k t true e below (inr r) = contains-tail m.tree (in_set more k) t (below (record { at = r }))
set-back m more k t false e below (inl q) =
    let s : (m.set == k) ≡ true = (Decides-eqb m.set k).1 (ap (λ (z : Member). z.set) q) in
    absurd cc
set-back m more k t false e below (inr r) = below (record { at = r })

pub has-in_set : (members : List Member) (k : ℕ) (t : Tree) → Has members k t → Contains (in_set members k) t
has-in_set [] k t h = absurd (none (record { set = k; tree = t }) h.at)
has-in_set (m ∷ more) k t h = set-back m more k t (m.set == k) refl (has-in_set more k t) (cons-cases m more (record { set = k; tree = t }) h.at)

pub inputs-back : (nodes : Nodes) (u x : Tree) → Contains (inputs nodes u) x → (k : ℕ) × (u ≡ hole k) × Contains (nodes k) x
inputs-back nodes (leaf l) x h = absurd (none x h)
inputs-back nodes (unary u t) x h = absurd (none x h)
inputs-back nodes (binary b s t) x h = absurd (none x h)
inputs-back nodes (hole k) x h = (k, refl, h)

-- ---- each binding is listed of a member

-- a member of the set of whose node the tree is listed
abbrev IsListed : List Member → Reach → ℕ → Tree → Type 0
IsListed members reach s t = (node : Tree) × Has members s node × Contains (bindings (in_set members) reach node) t

pub first-listed : (members : List Member) (s : ℕ) (t : Tree) → BindsFirst (Has members) s t → IsListed members FirstChild s t
first-listed members s (leaf l) e = (leaf l, e, contains-head (leaf l) [])
first-listed members s (unary u t) e = (unary u (hole e.0), e.1, contains-map (unary u) (in_set members e.0) t (has-in_set members e.0 t e.2))
first-listed members s (binary b x y) e =
    (binary b (hole e.0) y, e.1, contains-map (λ z. binary b z y) (in_set members e.0) x (has-in_set members e.0 x e.2))
first-listed members s (hole k) e = absurd e

pub both-listed : (members : List Member) (s : ℕ) (t : Tree) → BindsBoth (Has members) s t → IsListed members BothChildren s t
both-listed members s (leaf l) e = (leaf l, e, contains-head (leaf l) [])
both-listed members s (unary u t) e = (unary u (hole e.0), e.1, contains-map (unary u) (in_set members e.0) t (has-in_set members e.0 t e.2))
both-listed members s (binary b x y) e = (
  binary b (hole e.0) (hole e.1),
  e.2,
  contains-flat_map (λ z. map (binary b z) (in_set members e.1)) (in_set members e.0) x (binary b x y) (has-in_set members e.0 x e.3)
      (contains-map (binary b x) (in_set members e.1) y (has-in_set members e.1 y e.4)),
)
both-listed members s (hole k) e = absurd e

deep : (members : List Member) (k : ℕ) (t : Tree) → BindsFirst (Has members) k t → Contains (flat_map (firsts (in_set members)) (in_set members k)) t
deep members k t e = let r = first-listed members k t e in contains-flat_map (firsts (in_set members)) (in_set members k) r.0 t (has-in_set members k r.0 r.1) r.2

pub chain-listed : (members : List Member) (s : ℕ) (t : Tree) → BindsChain (Has members) s t → IsListed members Chain s t
chain-listed members s (leaf l) e = (leaf l, e, contains-head (leaf l) [])
chain-listed members s (unary u t) e =
    (unary u (hole e.0), e.1, contains-map (unary u) (flat_map (firsts (in_set members)) (in_set members e.0)) t (deep members e.0 t e.2))
chain-listed members s (binary b x y) e =
    (binary b (hole e.0) y, e.1, contains-map (λ z. binary b z y) (flat_map (firsts (in_set members)) (in_set members e.0)) x (deep members e.0 x e.2))
chain-listed members s (hole k) e = absurd e

pub binds-listed : (members : List Member) (reach : Reach) (s : ℕ) (t : Tree) → Binds members reach s t → (node : Tree) × Has members s node × Contains (bindings (in_set members) reach node) t
binds-listed members Node s t e = (t, e, contains-head t [])
binds-listed members FirstChild s t e = first-listed members s t e
binds-listed members BothChildren s t e = both-listed members s t e
binds-listed members Chain s t e = chain-listed members s t e
