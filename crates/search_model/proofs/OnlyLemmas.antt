-- What is listed of a member is a binding.
use Rattle.std.proofs.Common.{◌≡◌, ℕ, List, [], ◌∷◌, map, sym, subst, inl, inr}
use Rattle.std.specs.Prelude.{Contains}
use Rattle.std.specs.List.{flat_map}
use Rattle.cal_rel.specs.Tree.{Tree, Leaf, Unary, Binary, leaf, unary, binary, hole}
use Rattle.rule_hep.specs.declared.rule.Reach.{Reach}
use Rattle.rule_hep.specs.declared.rule.Reach.TheVariants.{Node, FirstChild, BothChildren, Chain}
use Rattle.memo_model.specs.Sets.{Member, Has}
use Rattle.memo_model.proofs.ListLemmas.{contains-map_back}
use Rattle.search_model.specs.Bindings.{BindsFirst, BindsBoth, BindsChain, Binds}
use Rattle.search_model.specs.Listed.{in_set, inputs, firsts, boths, chains, bindings}
use Rattle.search_model.proofs.AmongLemmas.{none, cons-cases}
use Rattle.search_model.proofs.ListedLemmas.{contains-flat_map_back, in_set-has, inputs-back}

alone-only : (P : Tree → Type 0) (x t : Tree) → P x → Contains (x ∷ []) t → P t
alone-only P x t h e = elim (cons-cases x [] t e) [ inl q ↦ subst P q h | inr r ↦ absurd (none t r) ]

module _ (members : List Member) where
  -- an input of a node is a member of the set of its hole
  abbrev IsInput : Tree → Tree → Type 0
  IsInput u x = (k : ℕ) × (u ≡ hole k) × Has members k x

  input-of : (u x : Tree) → Contains (inputs (in_set members) u) x → IsInput u x
  input-of u x h = let k = inputs-back (in_set members) u x h in (k.0, k.1, in_set-has members k.0 x k.2)

  module _ (s : ℕ) where
    pub first-only : (node t : Tree) → Has members s node → Contains (firsts (in_set members) node) t → BindsFirst (Has members) s t
    first-only (leaf l) t h e = alone-only (BindsFirst (Has members) s) (leaf l) t h e
    first-only (unary u v) t h e =
        let x = contains-map_back (unary u) (inputs (in_set members) v) t e in
        let k = input-of v x.0 x.1 in
        subst (BindsFirst (Has members) s) x.2 (k.0, subst (λ z. Has members s (unary u z)) k.1 h, k.2)
    first-only (binary b v w) t h e =
        let x = contains-map_back (λ z. binary b z w) (inputs (in_set members) v) t e in
        let k = input-of v x.0 x.1 in
        subst (BindsFirst (Has members) s) x.2 (k.0, subst (λ z. Has members s (binary b z w)) k.1 h, k.2)
    first-only (hole k) t h e = absurd (none t e)

    pub both-only : (node t : Tree) → Has members s node → Contains (boths (in_set members) node) t → BindsBoth (Has members) s t
    both-only (leaf l) t h e = alone-only (BindsBoth (Has members) s) (leaf l) t h e
    both-only (unary u v) t h e =
        let x = contains-map_back (unary u) (inputs (in_set members) v) t e in
        let k = input-of v x.0 x.1 in
        subst (BindsBoth (Has members) s) x.2 (k.0, subst (λ z. Has members s (unary u z)) k.1 h, k.2)
    both-only (binary b v w) t h e =
        let x = contains-flat_map_back (λ z. map (binary b z) (inputs (in_set members) w)) (inputs (in_set members) v) t e in
        let y = contains-map_back (binary b x.0) (inputs (in_set members) w) t x.2 in
        let k = input-of v x.0 x.1 in
        let l = input-of w y.0 y.1 in
        let left : Has members s (binary b (hole k.0) w) = subst (λ z. Has members s (binary b z w)) k.1 h in
        subst (BindsBoth (Has members) s) y.2 (k.0, l.0, subst (λ z. Has members s (binary b (hole k.0) z)) l.1 left, k.2, l.2)
    both-only (hole k) t h e = absurd (none t e)

  deep-only : (u x : Tree) → Contains (flat_map (firsts (in_set members)) (inputs (in_set members) u)) x → (k : ℕ) × (u ≡ hole k) × BindsFirst (Has members) k x
  deep-only u x e =
      let r = contains-flat_map_back (firsts (in_set members)) (inputs (in_set members) u) x e in
      let k = input-of u r.0 r.1 in
      (k.0, k.1, first-only k.0 r.0 x k.2 r.2)

  module _ (s : ℕ) where
    pub chain-only : (node t : Tree) → Has members s node → Contains (chains (in_set members) node) t → BindsChain (Has members) s t
    chain-only (leaf l) t h e = alone-only (BindsChain (Has members) s) (leaf l) t h e
    chain-only (unary u v) t h e =
        let x = contains-map_back (unary u) (flat_map (firsts (in_set members)) (inputs (in_set members) v)) t e in
        let k = deep-only v x.0 x.1 in
        subst (BindsChain (Has members) s) x.2 (k.0, subst (λ z. Has members s (unary u z)) k.1 h, k.2)
    chain-only (binary b v w) t h e =
        let x = contains-map_back (λ z. binary b z w) (flat_map (firsts (in_set members)) (inputs (in_set members) v)) t e in
        let k = deep-only v x.0 x.1 in
        subst (BindsChain (Has members) s) x.2 (k.0, subst (λ z. Has members s (binary b z w)) k.1 h, k.2)
    chain-only (hole k) t h e = absurd (none t e)

    pub binds-only : (reach : Reach) (node t : Tree) → Has members s node → Contains (bindings (in_set members) reach node) t → Binds members reach s t
    binds-only Node node t h e = alone-only (Has members s) node t h e
    binds-only FirstChild node t h e = first-only s node t h e
    binds-only BothChildren node t h e = both-only s node t h e
    binds-only Chain node t h e = chain-only node t h e
