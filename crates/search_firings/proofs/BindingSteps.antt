-- The bindings of a node by its inputs.
use Rattle.std.proofs.Common.{◌≡◌, List, [], ◌∷◌, map, Some, None, refl, ap, sym, subst}
use Rattle.std.proofs.lemmas.Option.{none-some, same_Some}
use Rattle.cal_rel.specs.Places.{place, replaced}
use Rattle.cal_rel.specs.Tree.{Tree, leaf, unary, binary, hole}
use Rattle.std.specs.List.{flat_map}
use Rattle.search_model.specs.Listed.{Nodes, inputs, firsts, boths, chains}
use Rattle.search_firings.specs.Steps.{leaf_alone, pairs}

module _ (nodes : Nodes) where
  pub firsts-some : (t x : Tree) → place t (0 ∷ []) ≡ Some x → firsts nodes t ≡ map (replaced t (0 ∷ [])) (inputs nodes x)
  firsts-some (leaf l) x e = absurd (none-some x e)
  firsts-some (unary u t) x e = ap (λ z. map (unary u) (inputs nodes z)) (same_Some t x e)
  firsts-some (binary b s t) x e = ap (λ z. map (λ y. binary b y t) (inputs nodes z)) (same_Some s x e)
  firsts-some (hole k) x e = absurd (none-some x e)

  pub firsts-none : (t : Tree) → place t (0 ∷ []) ≡ None → firsts nodes t ≡ leaf_alone t
  firsts-none (leaf l) e = refl
  firsts-none (unary u t) e = absurd (none-some t (sym e))
  firsts-none (binary b s t) e = absurd (none-some s (sym e))
  firsts-none (hole k) e = refl

  pub chains-some : (t x : Tree) → place t (0 ∷ []) ≡ Some x → chains nodes t ≡ map (replaced t (0 ∷ [])) (flat_map (firsts nodes) (inputs nodes x))
  chains-some (leaf l) x e = absurd (none-some x e)
  chains-some (unary u t) x e = ap (λ z. map (unary u) (flat_map (firsts nodes) (inputs nodes z))) (same_Some t x e)
  chains-some (binary b s t) x e = ap (λ z. map (λ y. binary b y t) (flat_map (firsts nodes) (inputs nodes z))) (same_Some s x e)
  chains-some (hole k) x e = absurd (none-some x e)

  pub chains-none : (t : Tree) → place t (0 ∷ []) ≡ None → chains nodes t ≡ leaf_alone t
  chains-none (leaf l) e = refl
  chains-none (unary u t) e = absurd (none-some t (sym e))
  chains-none (binary b s t) e = absurd (none-some s (sym e))
  chains-none (hole k) e = refl

  pub boths-none : (t : Tree) → place t (0 ∷ []) ≡ None → boths nodes t ≡ firsts nodes t
  boths-none (leaf l) e = refl
  boths-none (unary u t) e = refl
  boths-none (binary b s t) e = absurd (none-some s (sym e))
  boths-none (hole k) e = refl

  pub boths-one : (t : Tree) → place t (1 ∷ []) ≡ None → boths nodes t ≡ firsts nodes t
  boths-one (leaf l) e = refl
  boths-one (unary u t) e = refl
  boths-one (binary b s t) e = absurd (none-some t (sym e))
  boths-one (hole k) e = refl

  pub boths-two : (t x y : Tree) → place t (0 ∷ []) ≡ Some x → place t (1 ∷ []) ≡ Some y → boths nodes t ≡ pairs t (inputs nodes x) (inputs nodes y)
  boths-two (leaf l) x y e f = absurd (none-some x e)
  boths-two (unary u t) x y e f = absurd (none-some y f)
  boths-two (binary b s t) x y e f = λ i. flat_map (λ z. map (binary b z) (inputs nodes (same_Some t y f i))) (inputs nodes (same_Some s x e i))
  boths-two (hole k) x y e f = absurd (none-some x e)

pub ruleset first_steps = (firsts-some, firsts-none)

pub ruleset chain_steps = (chains-some, chains-none)

pub ruleset both_steps = (boths-none, boths-one, boths-two)
