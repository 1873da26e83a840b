-- The search for two places with one expression.
use Rattle.std.proofs.Common.{◌≡◌, ℕ, ◌<◌, inl, inr, true, false, List, map, length, get_or, sym, ◌∙◌, ap, arith}
use Rattle.std.proofs.lemmas.Bool.{cases_order}
use Rattle.std.proofs.lemmas.List.{get_or-map, length-map}
use Rattle.memo_model.specs.Same.{same_tree}
use Rattle.memo_model.specs.Sets.{Member}
use Rattle.memo_model.proofs.TreeLemmas.{tree-true, tree-itself}
use Rattle.memo_model.specs.Sound.{IsUnique}
use Rattle.memo_model.specs.Relations.{IsTwice, IsFirst}

-- where each place is the first of its expression, no expression occurs twice
pub unique-from_first : (members : List Member) → ((j : ℕ) → j < length members → IsFirst members j) → IsUnique members
unique-from_first members h = record {
  once = λ i j d li lj e. elim (cases_order i j) [
    | inl same ↦ same
    | inr apart ↦ elim apart [ inl l ↦ absurd ((h j lj).first i d l e) | inr l ↦ absurd ((h i li).first j d l (sym e)) ]
  ];
}

module _ {M : Type 0} (of : M → Member) where
  pub seen : (members : List M) (i : ℕ) (x : M) → i < length members → x ≡ get_or members i x → (d : Member) → get_or (map of members) i d ≡ of x
  seen members i x l e d = get_or-map of members i x d l ∙ ap of (sym e)

  pub twice-found : (members : List M) (i j : ℕ) (x y : M) → i < j → j < length members → x ≡ get_or members i x → y ≡ get_or members j y
      → same_tree (of x).tree (of y).tree ≡ true → IsTwice (map of members) i j
  twice-found members i j x y l within e f same =
      let long = length-map members of in
      record {
        first = of x;
        second = of y;
        before = l;
        within = omega arith;
        first_is = seen members i x (omega arith) e (of x);
        second_is = seen members j y within f (of y);
        same = tree-true (of x).tree (of y).tree same;
      }

  -- what the search has passed
  pub apart-more : (members : List M) (i j : ℕ) (x y : M) → i < j → j < length members → x ≡ get_or members i x → y ≡ get_or members j y
      → same_tree (of x).tree (of y).tree ≡ false → (d : Member) → (get_or (map of members) i d).tree ≡ (get_or (map of members) j d).tree → ⊥
  apart-more members i j x y l within e f same d h =
      let at_x = ap (λ (z : Member). z.tree) (seen members i x (omega arith) e d) in
      let at_y = ap (λ (z : Member). z.tree) (seen members j y within f d) in
      let one : (of x).tree ≡ (of y).tree = sym at_x ∙ h ∙ at_y in
      let t : same_tree (of x).tree (of y).tree ≡ true = rw one (tree-itself (of y).tree) in
      absurd cc
